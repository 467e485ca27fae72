-- What is made exactly where a condition holds.
use Rattle.std.proofs.Common.{◌≡◌, Option, None, Some, IsSome, refl, sym, ap, subst, ◌∙◌}
use Rattle.std.specs.Option.{SomeIff}

-- where the condition holds there is a value, and it is this one
pub some-if : {T : Type 0} (o : Option T) (P : Type 0) (v : T) → SomeIff o P v → P → IsSome o
some-if None P v not_so holds = absurd (not_so holds)
some-if (Some x) P v is holds = refl

pub some-is : {T : Type 0} (o : Option T) (P : Type 0) (v x : T) → SomeIff o P v → o ≡ Some x → x ≡ v
some-is None P v x not_so e = absurd (cc)
some-is (Some y) P v x is e = let same : y ≡ x = cc in sym same ∙ is.1

-- what is made of equal values is the value itself
pub some-same : {T : Type 0} (o : Option T) (P : T → Type 0) (u v : T) → u ≡ v → P v → SomeIff o (P u) u → o ≡ Some v
some-same {T} None P u v e holds not_so = absurd (not_so (subst P (sym e) holds))
some-same {T} (Some x) P u v e holds is = ap (λ (y : T). Some y) (is.1 ∙ e)

pub some-there : {T : Type 0} (o : Option T) (v : T) → o ≡ Some v → IsSome o
some-there (Some x) v e = refl
some-there None v e = absurd (cc)
