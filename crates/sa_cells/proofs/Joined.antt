-- Pieces that are appended one after another.
use Rattle.std.proofs.Common.{◌≡◌, ℕ, List, ◌++◌, Result, OnOk, subst}
use Rattle.sa_lemmas.proofs.Texts.{appended_twice}

pub three-joined : (old a b c first second third : List ℕ) → first ≡ old ++ a → second ≡ first ++ b → third ≡ second ++ c → third ≡ old ++ (a ++ b ++ c)
three-joined old a b c first second third f s t = appended_twice old (a ++ b) c second third (appended_twice old a b first second f s) t

-- a text that is the same in other words
pub joined-as : {T E : Type 0} (result : Result T E) (old new text whole : List ℕ) → text ≡ whole → OnOk result (new ≡ old ++ text)
    → OnOk result (new ≡ old ++ whole)
joined-as result old new text whole is done = subst (λ (t : List ℕ). OnOk result (new ≡ old ++ t)) is done
