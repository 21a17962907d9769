use Rattle.std.proofs.Common.{◌≡◌, ◌+◌, ◌-◌, ◌<◌, ◌≤◌, ◌∙◌, length, ap}
use Rattle.tlm_types.specs.declared.words.Response.TheVariants.{Ok}
use Rattle.tlm_model.specs.Store.{span_of, got_by}
use Rattle.generic_payload.specs.declared.payload.Attributes.{Attributes}
use Rattle.generic_payload.specs.Payload.{PayloadView, access_of, viewed}
use Rattle.generic_payload.proofs.Keeps.{all_there, count_from, ends_inside, holds_with, not_less, some_there, viewed_with}
use Rattle.generic_payload.proofs.Moves.{got_by-streaming, got_by-plain}
use Rattle.generic_payload.proofs.payload.Payload.read_from.Goals as goal

pub slice_bounds-places-end : goal.slice_bounds-places-end
slice_bounds-places-end c =
    let p = c.args.self.now in
    let address : c.deref.result.now.address ≡ p.address = ap (λ (a : Attributes). a.address) c.deref.ensures ∙ ap (λ (v : PayloadView). v.address) c.self.view_is in
    ends_inside p c.deref.result.now.address c.span.result (length c.args.store.now) address c.span.ensures c.requires.places

pub stream_from-requires : goal.stream_from-requires
stream_from-requires c =
    let p = c.args.self.now in
    let address : c.deref.result.now.address ≡ p.address = ap (λ (a : Attributes). a.address) c.deref.ensures ∙ ap (λ (v : PayloadView). v.address) c.self.view_is in
    let streams : p.width < length p.bytes = c.is_streaming.ensures.0 c.if-is_streaming.true in
    some_there p c.args.store.now c.deref.result.now.address c.span.result address c.span.ensures c.requires.places streams

pub invariant_of-self : goal.invariant_of-self
invariant_of-self c =
    let a = c.deref_mut-attributes.result.now in
    let same : length c.stream_from.new.bytes ≡ length a.bytes.items = c.stream_from.auto.bytes ∙ ap length c.deref_mut.ensures.value in
    holds_with a c.self.inside.attributes.value c.stream_from.new.bytes c.deref_mut-attributes.ensures.value c.self.invariant same

pub returns-then-is_streaming : goal.returns-then-is_streaming
returns-then-is_streaming c =
    let p = c.args.self.now in
    let a = c.deref_mut-attributes.result.now in
    let seen : viewed a ≡ p = ap viewed c.deref_mut-attributes.ensures.value ∙ c.self.view_is in
    let address : c.deref.result.now.address ≡ p.address = ap (λ (a : Attributes). a.address) c.deref.ensures ∙ ap (λ (v : PayloadView). v.address) c.self.view_is in
    let bytes : c.deref_mut.result.now ≡ p.bytes = c.deref_mut.ensures.value ∙ ap (λ (v : PayloadView). v.bytes) seen in
    let enables : c.deref-then-is_streaming.result.now ≡ p.enables = c.deref-then-is_streaming.ensures.value ∙ ap (λ (v : PayloadView). v.enables) seen in
    let spans : p.address + c.span.result - p.address ≡ span_of (access_of p) = count_from p.address c.span.result (span_of (access_of p)) c.span.ensures in
    let streams : p.width < length p.bytes = c.is_streaming.ensures.0 c.if-is_streaming.true in
    let same : length c.stream_from.new.bytes ≡ length a.bytes.items = c.stream_from.auto.bytes ∙ ap length c.deref_mut.ensures.value in
    let got : c.stream_from.new.bytes ≡ got_by p.command Ok (access_of p) c.args.store.now =
    rw (c.stream_from.ensures, bytes, enables, address)
    (got_by-streaming p c.args.store.now (p.address + c.span.result - p.address) c.requires.read c.requires.places spans streams) in
    viewed_with p a c.stream_from.new.bytes (got_by p.command Ok (access_of p) c.args.store.now) seen same got

pub merge-requires : goal.merge-requires
merge-requires c =
    let p = c.args.self.now in
    let a = c.deref_mut-attributes-else-is_streaming.result.now in
    let seen : viewed a ≡ p = ap viewed c.deref_mut-attributes-else-is_streaming.ensures.value ∙ c.self.view_is in
    let address : c.deref.result.now.address ≡ p.address = ap (λ (a : Attributes). a.address) c.deref.ensures ∙ ap (λ (v : PayloadView). v.address) c.self.view_is in
    let bytes : c.deref_mut-else-is_streaming.result.now ≡ p.bytes = c.deref_mut-else-is_streaming.ensures.value ∙ ap (λ (v : PayloadView). v.bytes) seen in
    let plain : length p.bytes ≤ p.width = not_less c.is_streaming.result p.width (length p.bytes) c.is_streaming.ensures c.if-is_streaming.false in
    all_there p c.args.store.now c.deref_mut-else-is_streaming.result.now c.deref.result.now.address c.span.result bytes address c.span.ensures c.requires.places plain

pub invariant_of-self-else-is_streaming : goal.invariant_of-self-else-is_streaming
invariant_of-self-else-is_streaming c =
    let a = c.deref_mut-attributes-else-is_streaming.result.now in
    let same : length c.merge.new.dst ≡ length a.bytes.items = c.merge.auto.dst ∙ ap length c.deref_mut-else-is_streaming.ensures.value in
    holds_with a c.self.inside.attributes.value c.merge.new.dst c.deref_mut-attributes-else-is_streaming.ensures.value c.self.invariant same

pub returns-else-is_streaming : goal.returns-else-is_streaming
returns-else-is_streaming c =
    let p = c.args.self.now in
    let a = c.deref_mut-attributes-else-is_streaming.result.now in
    let seen : viewed a ≡ p = ap viewed c.deref_mut-attributes-else-is_streaming.ensures.value ∙ c.self.view_is in
    let address : c.deref.result.now.address ≡ p.address = ap (λ (a : Attributes). a.address) c.deref.ensures ∙ ap (λ (v : PayloadView). v.address) c.self.view_is in
    let bytes : c.deref_mut-else-is_streaming.result.now ≡ p.bytes = c.deref_mut-else-is_streaming.ensures.value ∙ ap (λ (v : PayloadView). v.bytes) seen in
    let enables : c.deref-else-is_streaming.result.now ≡ p.enables = c.deref-else-is_streaming.ensures.value ∙ ap (λ (v : PayloadView). v.enables) seen in
    let spans : p.address + c.span.result - p.address ≡ span_of (access_of p) = count_from p.address c.span.result (span_of (access_of p)) c.span.ensures in
    let plain : length p.bytes ≤ p.width = not_less c.is_streaming.result p.width (length p.bytes) c.is_streaming.ensures c.if-is_streaming.false in
    let same : length c.merge.new.dst ≡ length a.bytes.items = c.merge.auto.dst ∙ ap length c.deref_mut-else-is_streaming.ensures.value in
    let got : c.merge.new.dst ≡ got_by p.command Ok (access_of p) c.args.store.now =
    rw (c.merge.ensures, bytes, enables, address)
    (got_by-plain p c.args.store.now (p.address + c.span.result - p.address) c.requires.read c.requires.places spans plain) in
    viewed_with p a c.merge.new.dst (got_by p.command Ok (access_of p) c.args.store.now) seen same got
