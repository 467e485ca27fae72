-- Pieces of texts: words and numbers.
use Rattle.std.specs.Prelude.{ℕ, List, [], ◌++◌, codes, decimal, Option, Some, None}
use Rattle.sa_base.specs.declared.number.SpaceNo.{SpaceNo}
use Rattle.sa_base.specs.declared.number.ThreadNo.{ThreadNo}
use Rattle.sa_base.specs.declared.number.ActNo.{ActNo}

-- words and a number; a number between words
abbrev pub numbered : List ℕ → ℕ → List ℕ
numbered word n = word ++ decimal n

unfoldable pub one : List ℕ → ℕ → List ℕ → List ℕ
one before n behind = before ++ decimal n ++ behind

-- two and three numbers between words
unfoldable pub two : List ℕ → ℕ → List ℕ → ℕ → List ℕ → List ℕ
two before n between m behind = one before n between ++ decimal m ++ behind

unfoldable pub three : List ℕ → ℕ → List ℕ → ℕ → List ℕ → ℕ → List ℕ → List ℕ
three before n between m middle k behind = two before n between m middle ++ decimal k ++ behind

-- a number that may be absent
abbrev pub space_if : Option SpaceNo → List ℕ
space_if None = codes "-"
space_if (Some s) = decimal s.0

abbrev pub act_if : Option ActNo → List ℕ
act_if None = codes "-"
act_if (Some a) = decimal a.0

-- a space that may be absent, and a thread that may be, in words
unfoldable pub a_space : Option SpaceNo → List ℕ
a_space None = codes "no space"
a_space (Some s) = numbered (codes "space ") s.0

unfoldable pub a_thread : Option ThreadNo → List ℕ
a_thread None = codes "no thread"
a_thread (Some t) = numbered (codes "thread ") t.0

-- a thread behind other words, where there is one
unfoldable pub and_thread : Option ThreadNo → List ℕ
and_thread None = []
and_thread (Some t) = numbered (codes ", thread ") t.0
