-- What the proof needs of the machines that are searched.
use Rattle.std.specs.Prelude.{◌≡◌, ℕ, ◌<◌, List, [], ◌∷◌, ◌++◌, Option, None}
use Rattle.sa_base.specs.declared.number.ProcNo.{ProcNo}
use Rattle.sa_base.specs.declared.record.End.{End}

module _ {M O : Type 0} (look : M → O) (end : M → Option End) (Way : List ProcNo → M → Type 0) (Turn : M → ProcNo → M → Type 0) (processors : ℕ) where
  -- turns in a row
  abbrev pub Lead : List ProcNo → M → M → Type 0
  Lead [] m after = after ≡ m
  Lead (p ∷ ps) m after = (between : M) × Turn m p between × Lead ps between after

  -- `Of m`: m is a machine of a run
  pub record Laws (Of : M → Type 0) : Type 0 where
    -- machines of one outlook have one end, and the same turn leads them to one outlook
    pub ends : (m n : M) → Of m → Of n → look m ≡ look n → end m ≡ end n
    pub turns : (m n after later : M) (p : ProcNo) → Of m → Of n → look m ≡ look n → Turn m p after → Turn n p later → look after ≡ look later
    -- turns lead from one machine of a run to another, and none comes after an end
    pub of-turn : (m after : M) (p : ProcNo) → Of m → Turn m p after → Of after
    pub of-way : (qs : List ProcNo) (m : M) → Way qs m → Of m
    pub goes : (m after : M) (p : ProcNo) → Turn m p after → end m ≡ None
    pub within : (m after : M) (p : ProcNo) → Of m → Turn m p after → p.0 < processors
    -- a way begins at a machine of the first outlook, and goes on by turns
    pub begins : (qs : List ProcNo) (m : M) → Way qs m → (start : M) × Way [] start × Lead qs start m
    pub starts : (m n : M) → Way [] m → Way [] n → look m ≡ look n
    pub more : (qs : List ProcNo) (m after : M) (p : ProcNo) → Way qs m → Turn m p after → Way (qs ++ p ∷ []) after
