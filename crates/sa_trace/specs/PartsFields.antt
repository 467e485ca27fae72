-- A record's parts as a contract sees them.
use Rattle.std.specs.Prelude.{length, take}
use Rattle.sa_trace.specs.declared.parts.Parts.TheInside.{Inside}
use Rattle.sa_trace.specs.Kind.{form_of}
use Rattle.sa_trace.specs.Parts.{RecordParts, parts}

abbrev pub parts_inside : Inside → RecordParts
parts_inside p = parts p.kind (take (length (form_of p.kind).fields) p.values)
