use Rattle.std.proofs.Common.{◌≡◌, ◌+◌, ◌-◌, ◌∙◌, length, ap, refl, subst}
use Rattle.tlm_types.specs.declared.words.Response.TheVariants.{Ok}
use Rattle.tlm_model.specs.Store.{span_of, got_by}
use Rattle.generic_payload.specs.declared.payload.Attributes.{Attributes}
use Rattle.generic_payload.specs.Payload.{PayloadView, access_of, viewed, HasWord}
use Rattle.generic_payload.proofs.Keeps.{count_from, ends_inside, equal_least, holds_with, span_of-word, viewed_with, word_of, word_there}
use Rattle.generic_payload.proofs.Moves.{got_by-word, stored_by-word}
use Rattle.generic_payload.proofs.payload.Payload.fetch_into.Goals as goal

pub fetch_word-requires-clause-word : goal.fetch_word-requires-clause-word
fetch_word-requires-clause-word c =
    let p = c.args.self.now in
    let a = c.deref_mut-attributes.result.now in
    let seen : viewed a ≡ p = ap viewed c.deref_mut-attributes.ensures.value ∙ c.self.view_is in
    let bytes : c.deref_mut.result.now ≡ p.bytes = c.deref_mut.ensures.value ∙ ap (λ (v : PayloadView). v.bytes) seen in
    let word : HasWord p.command p.bytes p.width = subst (λ (v : PayloadView). HasWord v.command v.bytes v.width) c.self.view_is c.self.invariant.4 in
    let four = word_of p.command p.bytes p.width c.requires.fetch word in
    ap length bytes ∙ four.0

pub fetch_word-requires-clause-places : goal.fetch_word-requires-clause-places
fetch_word-requires-clause-places c =
    let p = c.args.self.now in
    let address : c.deref.result.now.address ≡ p.address = ap (λ (a : Attributes). a.address) c.deref.ensures ∙ ap (λ (v : PayloadView). v.address) c.self.view_is in
    let word : HasWord p.command p.bytes p.width = subst (λ (v : PayloadView). HasWord v.command v.bytes v.width) c.self.view_is c.self.invariant.4 in
    let four = word_of p.command p.bytes p.width c.requires.fetch word in
    let span = span_of-word p c.requires.places.wide four.0 four.1 in
    word_there p c.args.store.now c.deref.result.now.address address span c.requires.places

pub slice_bounds-fetch_word-end : goal.slice_bounds-fetch_word-end
slice_bounds-fetch_word-end c =
    let p = c.args.self.now in
    let address : c.deref.result.now.address ≡ p.address = ap (λ (a : Attributes). a.address) c.deref.ensures ∙ ap (λ (v : PayloadView). v.address) c.self.view_is in
    let word : HasWord p.command p.bytes p.width = subst (λ (v : PayloadView). HasWord v.command v.bytes v.width) c.self.view_is c.self.invariant.4 in
    let four = word_of p.command p.bytes p.width c.requires.fetch word in
    let span = span_of-word p c.requires.places.wide four.0 four.1 in
    ends_inside p c.deref.result.now.address 4 (length c.args.store.now) address span c.requires.places

pub invariant_of-self : goal.invariant_of-self
invariant_of-self c =
    let a = c.deref_mut-attributes.result.now in
    let same : length c.fetch_word.new.word ≡ length a.bytes.items = c.fetch_word.auto.word ∙ ap length c.deref_mut.ensures.value in
    holds_with a c.self.inside.attributes.value c.fetch_word.new.word c.deref_mut-attributes.ensures.value c.self.invariant same

pub returns-clause-payload : goal.returns-clause-payload
returns-clause-payload c =
    let p = c.args.self.now in
    let a = c.deref_mut-attributes.result.now in
    let seen : viewed a ≡ p = ap viewed c.deref_mut-attributes.ensures.value ∙ c.self.view_is in
    let address : c.deref.result.now.address ≡ p.address = ap (λ (a : Attributes). a.address) c.deref.ensures ∙ ap (λ (v : PayloadView). v.address) c.self.view_is in
    let bytes : c.deref_mut.result.now ≡ p.bytes = c.deref_mut.ensures.value ∙ ap (λ (v : PayloadView). v.bytes) seen in
    let enables : c.deref-2.result.now ≡ p.enables = c.deref-2.ensures.value ∙ ap (λ (v : PayloadView). v.enables) seen in
    let word : HasWord p.command p.bytes p.width = subst (λ (v : PayloadView). HasWord v.command v.bytes v.width) c.self.view_is c.self.invariant.4 in
    let four = word_of p.command p.bytes p.width c.requires.fetch word in
    let span = span_of-word p c.requires.places.wide four.0 four.1 in
    let spans : p.address + 4 - p.address ≡ span_of (access_of p) = count_from p.address 4 (span_of (access_of p)) span in
    let same : length c.fetch_word.new.word ≡ length a.bytes.items = c.fetch_word.auto.word ∙ ap length c.deref_mut.ensures.value in
    viewed_with p a c.fetch_word.new.word (got_by p.command Ok (access_of p) c.args.store.now) seen same (rw (c.fetch_word.ensures.word, bytes, enables, address)
    (got_by-word p c.args.store.now (p.address + 4 - p.address) c.requires.fetch c.requires.places spans (equal_least (length p.bytes) p.width 4 four.0 four.1)))

pub returns-clause-store : goal.returns-clause-store
returns-clause-store c =
    let p = c.args.self.now in
    let a = c.deref_mut-attributes.result.now in
    let seen : viewed a ≡ p = ap viewed c.deref_mut-attributes.ensures.value ∙ c.self.view_is in
    let address : c.deref.result.now.address ≡ p.address = ap (λ (a : Attributes). a.address) c.deref.ensures ∙ ap (λ (v : PayloadView). v.address) c.self.view_is in
    let bytes : c.deref_mut.result.now ≡ p.bytes = c.deref_mut.ensures.value ∙ ap (λ (v : PayloadView). v.bytes) seen in
    let enables : c.deref-2.result.now ≡ p.enables = c.deref-2.ensures.value ∙ ap (λ (v : PayloadView). v.enables) seen in
    let word : HasWord p.command p.bytes p.width = subst (λ (v : PayloadView). HasWord v.command v.bytes v.width) c.self.view_is c.self.invariant.4 in
    let four = word_of p.command p.bytes p.width c.requires.fetch word in
    let span = span_of-word p c.requires.places.wide four.0 four.1 in
    let spans : p.address + 4 - p.address ≡ span_of (access_of p) = count_from p.address 4 (span_of (access_of p)) span in
    rw (c.fetch_word.ensures.places, bytes, enables, address)
    (stored_by-word p c.args.store.now (p.address + 4 - p.address) c.requires.fetch c.requires.places spans four.0 (equal_least 4 p.width 4 refl four.1))
