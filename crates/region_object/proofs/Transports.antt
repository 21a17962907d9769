-- What a memory asks of a call of transport.
use Rattle.std.proofs.Common.{◌≡◌, true, List, refl}
use Rattle.one_history.specs.declared.entry.Sign.TheVariants.{Plain}
use Rattle.tlm_types.specs.declared.words.Way.{Way}
use Rattle.tlm_types.specs.declared.words.Way.TheVariants.{Blocking, FourPhase, Direct as by_grant, Debug as by_debug}
use Rattle.shared_object.specs.Written.{Written, sign_of, sign_of_way}
use Rattle.region_object.specs.declared.call.RegionCall.{RegionCall}
use Rattle.region_object.specs.declared.call.RegionCall.TheVariants.{Access, Debug, Grant, Direct, Invalidate, Overlapping, Close}
use Rattle.region_object.specs.Call.{Fits, IsFit, IsTransport}
use Rattle.region_object.specs.Region.{LoggedMemory, is_admitted, look_of, reply_of, what_of}

-- a call of transport that is fit fits whatever is known
pub transport_fits : (known : List Written) (call : RegionCall) → IsFit call → Fits known call
transport_fits known (Access txn time way p) fit = fit
transport_fits known (Debug txn time p) fit = fit
transport_fits known (Grant txn time command) fit = absurd fit
transport_fits known (Direct gate txn time p) fit = absurd fit
transport_fits known (Invalidate txn time first last) fit = absurd fit
transport_fits known (Overlapping from first last before) fit = absurd fit
transport_fits known (Close txn time gate) fit = absurd fit

-- it adds an entry, which has no sign of its own, and gives something
pub transport_admitted : (m : LoggedMemory) (call : RegionCall) → IsFit call → is_admitted m call ≡ true
transport_admitted m (Access txn time way p) fit = refl
transport_admitted m (Debug txn time p) fit = refl
transport_admitted m (Grant txn time command) fit = absurd fit
transport_admitted m (Direct gate txn time p) fit = absurd fit
transport_admitted m (Invalidate txn time first last) fit = absurd fit
transport_admitted m (Overlapping from first last before) fit = absurd fit
transport_admitted m (Close txn time gate) fit = absurd fit

pub transport_looks : (m : LoggedMemory) (call : RegionCall) → IsFit call → look_of (reply_of m call) ≡ 0
transport_looks m (Access txn time way p) fit = refl
transport_looks m (Debug txn time p) fit = refl
transport_looks m (Grant txn time command) fit = absurd fit
transport_looks m (Direct gate txn time p) fit = absurd fit
transport_looks m (Invalidate txn time first last) fit = absurd fit
transport_looks m (Overlapping from first last before) fit = absurd fit
transport_looks m (Close txn time gate) fit = absurd fit

plain_way : (way : Way) → IsTransport way → sign_of_way way ≡ Plain
plain_way Blocking is = refl
plain_way FourPhase is = refl
plain_way (by_grant g) is = absurd is
plain_way by_debug is = refl

pub transport_plain : (m : LoggedMemory) (call : RegionCall) → IsFit call → sign_of (what_of m call) ≡ Plain
transport_plain m (Access txn time way p) fit = plain_way way fit.0
transport_plain m (Debug txn time p) fit = refl
transport_plain m (Grant txn time command) fit = absurd fit
transport_plain m (Direct gate txn time p) fit = absurd fit
transport_plain m (Invalidate txn time first last) fit = absurd fit
transport_plain m (Overlapping from first last before) fit = absurd fit
transport_plain m (Close txn time gate) fit = absurd fit
