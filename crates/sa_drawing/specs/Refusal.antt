-- What an input is refused with.
use Rattle.std.specs.Prelude.{◌≡◌, ◌⊎◌, ℕ, ◌<◌, ◌≤◌, List, length, Err}
use Rattle.sa_base.specs.declared.refusal.Bad.{Bad}
use Rattle.sa_trace.specs.Reading.{read_of}
use Rattle.sa_drawing.specs.Losses.{trace_part}
use Rattle.sa_input.specs.declared.limits.TheConstants.{TRACE_LIMIT}
use Rattle.sa_input.specs.Refusals.{too_long}

-- the refusal of an input: it is too long, or else no trace text
abbrev pub IsRefused : List ℕ → Bad → Type 0
IsRefused input bad =
    ((TRACE_LIMIT < length input) × (bad ≡ too_long TRACE_LIMIT input)) ⊎ ((length input ≤ TRACE_LIMIT) × (read_of (trace_part input) ≡ Err bad))
