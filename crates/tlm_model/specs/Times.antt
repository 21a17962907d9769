-- The times of entries.
use Rattle.std.specs.Prelude.{ℕ, ◌≡◌, List}
use Rattle.tlm_types.specs.declared.words.Way.{Way}
use Rattle.tlm_types.specs.declared.words.Way.TheVariants.{Blocking}
use Rattle.tlm_types.specs.declared.entry.Entry.{Entry}
use Rattle.tlm_types.specs.declared.entry.What.{What}
use Rattle.tlm_types.specs.declared.entry.What.TheVariants.{Access as Accessed, Granted}
use Rattle.tlm_model.specs.declared.platform.Platform.{Platform}
use Rattle.tlm_model.specs.declared.platform.Style.{Style}
use Rattle.tlm_model.specs.declared.platform.Style.TheVariants.{Blocking as blocking_style, Direct as direct_style, FourPhase as fourphase_style}
use Rattle.tlm_model.specs.Each.{AtEach}
use Rattle.tlm_model.specs.Plan.{Plan, Initiator}
use Rattle.tlm_model.specs.Requests.{Request}
use Rattle.tlm_model.specs.Route.{later, before_of, latency_of}
use Rattle.tlm_model.specs.Scripts.{OfRequest}

-- blocking transport arrives after the routers: each adds its latency (IEEE 1666-2011, clause 11.1.3)
abbrev pub access_time : Platform → Initiator → Request → Way → ℕ
access_time p i r Blocking = later r.time (before_of p i r.address)
access_time p i r way = r.time

-- the time of an entry for a request of a blocking or direct initiator
abbrev pub decoupled_time : Platform → Initiator → Request → What → ℕ
decoupled_time p i r (Accessed way access status got) = access_time p i r way
decoupled_time p i r (Granted g f l k) = later r.time (latency_of p i r.address)
decoupled_time p i r w = r.time

abbrev pub HasTime : Style → ℕ → ℕ → Type 0
HasTime blocking_style wanted time = time ≡ wanted
HasTime direct_style wanted time = time ≡ wanted
HasTime fourphase_style wanted time = Unit {0}

-- each entry of a blocking or direct initiator has the time that its request gives it
abbrev pub HasDecoupledTimes : Plan → List Entry → Type 0
HasDecoupledTimes p h = AtEach (λ before e. OfRequest p before e (λ i r. HasTime i.row.style (decoupled_time p.platform i r e.what) e.time)) h
