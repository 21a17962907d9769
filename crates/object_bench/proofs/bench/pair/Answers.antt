use Rattle.std.proofs.Common.{◌≡◌, ℕ, length, ap, sym, ◌∙◌, subst, refl, arith}
use Rattle.std.proofs.lemmas.List.{take_all}
use Rattle.view_lists.proofs.Places.{popped}
use Rattle.object_bench.proofs.bench.pair.Goals as goal

pub returns-clause-first : goal.returns-clause-first
returns-clause-first g c =
    let b = c.in-Some.ensures in
    let a = c.in-Some-pop.ensures in
    let all = c.args.seats.items in
    let l = c.requires.count in
    let n : length c.pop.new.self.items ≡ 1 = (let q = c.pop.new.self.ok.0 in let r = c.args.seats.ok.0 in let t = b.len in omega arith) in
    let m : length c.pop-2.new.self.items ≡ 0 = (let q = c.pop.new.self.ok.0 in let r = c.pop-2.new.self.ok.0 in let t = a.len in omega arith) in
    let p = popped all all c.pop.new.self.items 2 1 c.in-Some.second (sym (take_all 2 all (omega arith))) b.items l n in
    let q = popped all c.pop.new.self.items c.pop-2.new.self.items 1 0 c.in-Some-pop.first p.0 a.items n m in
    c.requires.fresh 0 c.in-Some-pop.first q.1

pub returns-clause-second : goal.returns-clause-second
returns-clause-second g c =
    let b = c.in-Some.ensures in
    let all = c.args.seats.items in
    let n : length c.pop.new.self.items ≡ 1 = (let q = c.pop.new.self.ok.0 in let r = c.args.seats.ok.0 in let t = b.len in let l = c.requires.count in omega arith) in
    let p = popped all all c.pop.new.self.items 2 1 c.in-Some.second (sym (take_all 2 all (omega arith))) b.items c.requires.count n in
    c.requires.fresh 1 c.in-Some.second p.1
