use Rattle.std.proofs.Common.{slice_get, sym, ap}
use Rattle.std.specs.Option.{option_map}
use Rattle.sa_virtual.specs.Virtual.{space_of, list_of}
use Rattle.sa_vp_model.specs.Turn.{thread}
use Rattle.sa_vp.proofs.board.Parts.first_due.Goals as goal

pub returns-then-self-eq0-clause-first : goal.returns-then-self-eq0-clause-first
returns-then-self-eq0-clause-first c =
    sym (ap (λ ts. option_map thread (slice_get ts 0)) (c.requires.counted c.if-self-eq0.true (space_of c.args.a) (list_of c.args.a)))
