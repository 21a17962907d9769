use Rattle.std.proofs.Common.{Ok, ap, arith}
use Rattle.entry_log.proofs.Stored.{kept-word, timed-word}
use Rattle.entry_log.proofs.log.Log.push_word.Goals as goal

pub invariant_of-self-then-is_word : goal.invariant_of-self-then-is_word
invariant_of-self-then-is_word c =
    let s = c.self.inside in
    let sent = c.args.sent.now in
    let enables = c.args.enables.now in
    let got = c.args.got.now in
    let has = c.in_ok-is_word.ensures.word (ap Ok c.if-is_word.true) in
    record {
      before = c.self.invariant.before;
      timed = rw has.pushed (timed-word sent enables got s.items.items has.item c.args.head c.args.facts c.self.invariant.timed has.word);
      kept = rw has.pushed (kept-word s.bytes.items sent enables got s.items.items has.item c.args.head c.args.facts c.self.invariant.kept has.word);
      roomy = omega arith;
      small = omega arith;
    }
