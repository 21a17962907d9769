-- What an engine's parts stand for.
use Rattle.std.specs.Prelude.{drop}
use Rattle.script_engine.specs.declared.walk.ScriptWalk.TheInside.{Inside}
use Rattle.script_engine.specs.State.{State, due_at}

abbrev pub state_of : Inside → State
state_of e = record {
  initiator = e.initiator;
  seq = e.seq;
  due = due_at e.due e.buffer;
  remaining = drop e.cursor.done e.cursor.operations;
  ended = e.ended;
}
