use Rattle.std.proofs.Common.{◌≡◌, ◌+◌, ◌-◌, ◌<◌, ◌≤◌, ◌∙◌, length, ap, arith, rules}
use Rattle.tlm_model.specs.Store.{span_of}
use Rattle.generic_payload.specs.declared.payload.Attributes.{Attributes}
use Rattle.generic_payload.specs.Payload.{PayloadView, access_of}
use Rattle.generic_payload.proofs.Moves.{stored_by-streaming, stored_by-plain}
use Rattle.generic_payload.proofs.payload.Payload.write_into.Goals as goal

pub returns-then-is_streaming : goal.returns-then-is_streaming
returns-then-is_streaming c =
    let p = c.args.self.now in
    let address : c.deref.result.now.address ≡ p.address = ap (λ (a : Attributes). a.address) c.deref.ensures ∙ ap (λ (v : PayloadView). v.address) c.self.view_is in
    let bytes : c.as_slice-bytes.result.now ≡ p.bytes = c.as_slice-bytes.ensures.value ∙ ap (λ (a : Attributes). a.bytes.items) c.deref-2.ensures ∙ ap (λ (v : PayloadView). v.bytes) c.self.view_is in
    let enables : c.as_slice-enables.result.now ≡ p.enables = c.as_slice-enables.ensures.value ∙ ap (λ (a : Attributes). a.enables.items) c.deref-3.ensures ∙ ap (λ (v : PayloadView). v.enables) c.self.view_is in
    let spans : p.address + c.span.result - p.address ≡ span_of (access_of p) = omega (arith, c.span.ensures) in
    let streams : p.width < length p.bytes = search rules in
    rw (c.stream_into.ensures, bytes, enables, address)
    (stored_by-streaming p c.args.store.now (p.address + c.span.result - p.address) c.requires.write c.requires.places spans streams)

pub returns-else-is_streaming : goal.returns-else-is_streaming
returns-else-is_streaming c =
    let p = c.args.self.now in
    let address : c.deref.result.now.address ≡ p.address = ap (λ (a : Attributes). a.address) c.deref.ensures ∙ ap (λ (v : PayloadView). v.address) c.self.view_is in
    let bytes : c.as_slice-bytes.result.now ≡ p.bytes = c.as_slice-bytes.ensures.value ∙ ap (λ (a : Attributes). a.bytes.items) c.deref-2.ensures ∙ ap (λ (v : PayloadView). v.bytes) c.self.view_is in
    let enables : c.as_slice-enables.result.now ≡ p.enables = c.as_slice-enables.ensures.value ∙ ap (λ (a : Attributes). a.enables.items) c.deref-3.ensures ∙ ap (λ (v : PayloadView). v.enables) c.self.view_is in
    let spans : p.address + c.span.result - p.address ≡ span_of (access_of p) = omega (arith, c.span.ensures) in
    let plain : length p.bytes ≤ p.width = grind arith in
    rw (c.merge.ensures, bytes, enables, address)
    (stored_by-plain p c.args.store.now (p.address + c.span.result - p.address) c.requires.write c.requires.places spans plain)
