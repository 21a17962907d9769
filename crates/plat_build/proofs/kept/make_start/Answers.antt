use Rattle.std.proofs.Common.{◌≡◌, length}
use Rattle.cargo_model.specs.Known.{objects_of}
use Rattle.plat_build.specs.Kept.{HasShares}
use Rattle.plat_net.proofs.Lookups.{short_at}
use Rattle.plat_build.proofs.kept.make_start.Goals as goal

pub returns : goal.returns
returns g c =
    let p = c.args.plan.now in
    let is = c.requires.wallet in
    let shares : HasShares g.N.Naming.tokens p c.args.initiator c.args.wallet = record {
      of = is.of;
      places = is.places;
      left = λ k o there. is.left k o (short_at (objects_of p.platform) k o there) there;
      bytes = λ k o there. is.bytes k o (short_at (objects_of p.platform) k o there) there;
      few = is.few;
    } in
    record { engine = search (Rattle.std.proofs.Common.rules); payload = search (Rattle.std.proofs.Common.rules); note = search (Rattle.std.proofs.Common.rules); wallet = shares }
