-- What a memory allows.
use Rattle.std.specs.Prelude.{Bool, true, false}
use Rattle.tlm_types.specs.declared.words.Kind.{Kind}
use Rattle.tlm_types.specs.declared.words.Kind.TheVariants.{Read, Write, Both}

-- the kind of a memory that is readable, and that is writable; each memory is one of them
abbrev pub allowed_kind : Bool → Bool → Kind
allowed_kind true true = Both
allowed_kind true false = Read
allowed_kind false writable = Write
