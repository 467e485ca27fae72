-- How reads add up to a line.
use Rattle.std.proofs.Common.{◌≡◌, ℕ, ◌+◌, List, [], ◌++◌, length, take, Option, refl, sym, ap, ◌∙◌, append_assoc, append-nil, inl, inr}
use Rattle.std.proofs.KnownBytes.{Consumes-trans}
use Rattle.std.specs.Prelude.{Err}
use Rattle.std.specs.Io.KnownBytes.{Consumes}
use Rattle.sa_base.specs.declared.refusal.Cause.TheVariants.{Missing}
use Rattle.sa_lines_in.specs.Line.{line_len}
use Rattle.sa_lines_in.specs.Reading.{IsNeeded}

-- what came in one read more was needed, where the line was not whole before
pub needed-more : (kept got more : List ℕ) → line_len (kept ++ got) ≡ Err Missing → IsNeeded kept (got ++ more)
needed-more kept got more lacks = inr (got, more, refl, lacks)
