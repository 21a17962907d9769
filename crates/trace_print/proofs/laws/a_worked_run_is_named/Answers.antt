use Rattle.std.proofs.Common.{ℕ, zero, suc, refl, arith, codes}
use Rattle.tlm_types.specs.declared.words.Response.TheVariants.{Ok}
use Rattle.report_model.specs.Report.{initiator_name, memory_name}
use Rattle.tlm_model.specs.Worked.{deadbeef, entry, read, readback, readback_plan, wrote}
use Rattle.traffic_script.specs.Proper.{AreBytes}
use Rattle.trace_print.specs.Naming.{HasOwnNames, HasPlainNames, IsPlainName, IsTellable}
use Rattle.trace_print.proofs.SplitLemmas.{lacks-by-test, visible-by-test}
use Rattle.trace_print.proofs.laws.a_worked_run_is_named.Goals as goal

plain-cpu : IsPlainName (codes "cpu")
plain-cpu = (visible-by-test (codes "cpu") refl, lacks-by-test 46 (codes "cpu") refl, lacks-by-test 62 (codes "cpu") refl)

plain-ram : IsPlainName (codes "ram")
plain-ram = (visible-by-test (codes "ram") refl, lacks-by-test 46 (codes "ram") refl, lacks-by-test 62 (codes "ram") refl)

initiators-plain : (n : ℕ) → IsPlainName (initiator_name readback_plan.platform n)
unfolding readback_plan
initiators-plain zero = plain-cpu
initiators-plain (suc n) = (tt, tt, tt)

memories-plain : (n : ℕ) → IsPlainName (memory_name readback_plan.platform n)
unfolding readback_plan
memories-plain zero = plain-ram
memories-plain (suc n) = (tt, tt, tt)

names-plain : HasPlainNames readback_plan.platform
unfolding readback_plan
names-plain = record { initiators = initiators-plain; routers = λ n. (tt, tt, tt); memories = memories-plain }

names-own : HasOwnNames readback_plan.platform
unfolding readback_plan
names-own = record {
  initiators = λ n m hn hm e. omega arith;
  memories = λ n m hn hm e. omega arith;
  hops = λ h k hh hk e. omega arith;
}

bytes : AreBytes deadbeef
bytes = (omega arith, (omega arith, (omega arith, (omega arith, tt))))

first-told : IsTellable readback_plan.platform (entry 0 0 0 (wrote 0x10 deadbeef Ok))
unfolding readback_plan
first-told = record {
  position = omega arith;
  time = omega arith;
  seq = omega arith;
  initiator = omega arith;
  object = omega arith;
  numbers = (tt, omega arith, omega arith, omega arith, tt, bytes, tt);
  bytes = refl;
}

second-told : IsTellable readback_plan.platform (entry 1 1 10 (read 0x10 deadbeef Ok))
unfolding readback_plan
second-told = record {
  position = omega arith;
  time = omega arith;
  seq = omega arith;
  initiator = omega arith;
  object = omega arith;
  numbers = (tt, omega arith, omega arith, omega arith, tt, bytes, tt);
  bytes = refl;
}

pub returns : goal.returns
unfolding readback
returns c = record { names = names-plain; own = names-own; entries = (first-told, (second-told, tt)) }
