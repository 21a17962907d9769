-- What a memory asks of its calls grows with what is known of it.
use Rattle.std.specs.Prelude.{ℕ, List}
use Rattle.view_lists.specs.Lists.{Within}
use Rattle.tlm_types.specs.declared.words.Kind.{Kind}
use Rattle.shared_object.specs.Written.{Written}
use Rattle.region_object.specs.declared.call.RegionCall.{RegionCall}
use Rattle.region_object.specs.declared.call.RegionCall.TheVariants.{Access, Debug, Grant, Direct, Invalidate, Overlapping, Close}
use Rattle.region_object.specs.Call.{Fits, HasGrant}

more_grants : (xs ys : List Written) (gate first last : ℕ) (kind : Kind) → Within xs ys → HasGrant xs gate first last kind → HasGrant ys gate first last kind
more_grants xs ys gate first last kind more has = (has.0, more has.0 has.1, has.2)

-- where more is known, no fewer calls fit
pub more_fit : (call : RegionCall) (xs ys : List Written) → Within xs ys → Fits xs call → Fits ys call
more_fit (Access txn time way p) xs ys more fit = fit
more_fit (Debug txn time p) xs ys more fit = fit
more_fit (Grant txn time command) xs ys more fit = fit
more_fit (Direct gate txn time p) xs ys more fit = record { first = fit.first; last = fit.last; kind = fit.kind; granted = more_grants xs ys gate fit.first fit.last fit.kind more fit.granted; plain = fit.plain }
more_fit (Invalidate txn time first last) xs ys more fit = tt
more_fit (Overlapping from first last before) xs ys more fit = tt
more_fit (Close txn time gate) xs ys more fit = record { first = fit.first; last = fit.last; kind = fit.kind; granted = more_grants xs ys gate fit.first fit.last fit.kind more fit.granted }
