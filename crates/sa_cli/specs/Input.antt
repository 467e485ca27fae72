-- What a source gave.
use Rattle.std.specs.Prelude.{◌≡◌, ℕ, ◌≤◌, List, length, Option, IsSome, IfSome}
use Rattle.std.specs.Io.KnownBytes.{Consumes, IsAtEnd}
use Rattle.sa_spaces.specs.Workload.{WorkloadView}
use Rattle.sa_workload.specs.Text.{IsText1, text_of}
use Rattle.sa_input.specs.declared.limits.TheConstants.{WORKLOAD_LIMIT}

-- which bytes are the text of which workload
abbrev pub Texts : Type 1
Texts = List ℕ → WorkloadView → Type 0

-- The source gave exactly the text of the workload, no longer than the limit, and is at its end, where it tells.
pub record GaveText (is_text : Texts) (before after : Option (List ℕ)) (w : WorkloadView) : Type 0 where
  pub text : List ℕ
  pub is : is_text text w
  pub short : length text ≤ WORKLOAD_LIMIT
  pub taken : Consumes before after text
  pub end : IsSome before → IsAtEnd after
  pub input : IfSome before (λ input. input ≡ text)

-- The source gave exactly the text of a workload, of version 1, and these bytes are its text with this slice.
pub record GaveSliced (slice : ℕ) (before after : Option (List ℕ)) (bytes : List ℕ) : Type 0 where
  pub workload : WorkloadView
  pub gave : GaveText IsText1 before after workload
  pub sliced : bytes ≡ text_of (record workload { slice = slice })
