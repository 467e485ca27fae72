use Rattle.std.proofs.Common.{◌∙◌, ap, take}
use Rattle.sa_check_shapes.proofs.PartLemmas.{take-front}
use Rattle.sa_check_shapes.proofs.parts.front_part.Goals as goal

pub returns : goal.returns
returns c = ap (λ n. take n c.args.records.now) c.front_len.ensures.len ∙ take-front c.args.records.now
