use Rattle.dmi_grants.proofs.Known.{grant_more, known_more}
use Rattle.shared_object.specs.Written.{written_at}
use Rattle.dmi_grants.proofs.laws.grants_stay_known.Goals as goal

pub returns-clause-usable : goal.returns-clause-usable
returns-clause-usable c = λ frame m note back h more is. record {
  memory = is.memory;
  gate = is.gate;
  granted = grant_more (written_at m note.known) (written_at m back.known) h.gate h.first h.last h.kind (known_more m note.known back.known more) is.granted;
  inside = is.inside;
}

pub returns-clause-known : goal.returns-clause-known
returns-clause-known c = λ m note back held more known h has here.
    grant_more (written_at m note.known) (written_at m back.known) h.gate h.first h.last h.kind (known_more m note.known back.known more) (known h has here)
