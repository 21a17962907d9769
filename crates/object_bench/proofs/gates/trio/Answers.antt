use Rattle.std.proofs.Common.{◌≡◌, ℕ, length, ap, sym, ◌∙◌, subst, refl, arith}
use Rattle.std.proofs.lemmas.List.{take_all}
use Rattle.view_lists.proofs.Places.{popped}
use Rattle.object_bench.proofs.gates.trio.Goals as goal

pub returns-clause-first : goal.returns-clause-first
returns-clause-first c =
    let third = c.in-Some.ensures in
    let second = c.in-Some-pop.ensures in
    let first = c.in-Some-pop-2.ensures in
    let all = c.args.seats.items in
    let l = c.requires.count in
    let n : length c.pop.new.self.items ≡ 2 = (let q = c.pop.new.self.ok.0 in let r = c.args.seats.ok.0 in let t = third.len in omega arith) in
    let m : length c.pop-2.new.self.items ≡ 1 = (let q = c.pop.new.self.ok.0 in let r = c.pop-2.new.self.ok.0 in let t = second.len in omega arith) in
    let k : length c.pop-3.new.self.items ≡ 0 = (let q = c.pop-2.new.self.ok.0 in let r = c.pop-3.new.self.ok.0 in let t = first.len in omega arith) in
    let p = popped all all c.pop.new.self.items 3 2 c.in-Some.third (sym (take_all 3 all (omega arith))) third.items l n in
    let q = popped all c.pop.new.self.items c.pop-2.new.self.items 2 1 c.in-Some-pop.second p.0 second.items n m in
    let r = popped all c.pop-2.new.self.items c.pop-3.new.self.items 1 0 c.in-Some-pop-2.first q.0 first.items m k in
    c.requires.fresh 0 c.in-Some-pop-2.first r.1

pub returns-clause-second : goal.returns-clause-second
returns-clause-second c =
    let third = c.in-Some.ensures in
    let second = c.in-Some-pop.ensures in
    let all = c.args.seats.items in
    let l = c.requires.count in
    let n : length c.pop.new.self.items ≡ 2 = (let q = c.pop.new.self.ok.0 in let r = c.args.seats.ok.0 in let t = third.len in omega arith) in
    let m : length c.pop-2.new.self.items ≡ 1 = (let q = c.pop.new.self.ok.0 in let r = c.pop-2.new.self.ok.0 in let t = second.len in omega arith) in
    let p = popped all all c.pop.new.self.items 3 2 c.in-Some.third (sym (take_all 3 all (omega arith))) third.items l n in
    let q = popped all c.pop.new.self.items c.pop-2.new.self.items 2 1 c.in-Some-pop.second p.0 second.items n m in
    c.requires.fresh 1 c.in-Some-pop.second q.1

pub returns-clause-third : goal.returns-clause-third
returns-clause-third c =
    let third = c.in-Some.ensures in
    let all = c.args.seats.items in
    let l = c.requires.count in
    let n : length c.pop.new.self.items ≡ 2 = (let q = c.pop.new.self.ok.0 in let r = c.args.seats.ok.0 in let t = third.len in omega arith) in
    let p = popped all all c.pop.new.self.items 3 2 c.in-Some.third (sym (take_all 3 all (omega arith))) third.items l n in
    c.requires.fresh 2 c.in-Some.third p.1
