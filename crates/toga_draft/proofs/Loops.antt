-- Steps for each item of a list, as a loop does them.
use Rattle.std.proofs.Common.{◌≡◌, ℕ, ◌+◌, ◌<◌, ◌≤◌, List, [], ◌∷◌, length, drop, get_or, Result, Ok, Err, sym, ap, ◌∙◌}
use Rattle.std.proofs.lemmas.List.{at_drop_more, at_drop_all}
use Rattle.toga_diagnostic.specs.declared.cause.Fault.{Fault}
use Rattle.toga_draft.specs.declared.unread.Unread.{Unread}
use Rattle.toga_draft.specs.declared.unread.Unread.TheVariants as unread
use Rattle.toga_draft.specs.Reading.{◌>>=◌, Fails, in_turn}

-- what is left from an item on is what is left after it, where its step succeeds
pub turn-more :
    {A B : Type 0} (step : A → B → Result B Fault) (xs : List A) (i : ℕ) (d : A) (now later : B) (all : Result B Fault) → i < length xs
    → in_turn step (drop i xs) now ≡ all → step (get_or xs i d) now ≡ Ok later → in_turn step (drop (i + 1) xs) later ≡ all
turn-more step xs i d now later all h e s =
    sym (at_drop_more (λ ys. in_turn step ys now) xs i d h ∙ ap (λ r. r >>= in_turn step (drop (i + 1) xs)) s) ∙ e

-- a step that is refused refuses all
pub turn-fails :
    {A B : Type 0} (step : A → B → Result B Fault) (xs : List A) (i : ℕ) (d : A) (now : B) (fault : Fault) (all : Result B Fault) → i < length xs
    → in_turn step (drop i xs) now ≡ all → step (get_or xs i d) now ≡ Err fault → all ≡ Err fault
turn-fails step xs i d now fault all h e s =
    sym e ∙ at_drop_more (λ ys. in_turn step ys now) xs i d h ∙ ap (λ r. r >>= in_turn step (drop (i + 1) xs)) s

-- after the last item
pub turn-all :
    {A B : Type 0} (step : A → B → Result B Fault) (xs : List A) (i : ℕ) (now : B) (all : Result B Fault) → length xs ≤ i
    → in_turn step (drop i xs) now ≡ all → all ≡ Ok now
turn-all step xs i now all h e = sym e ∙ at_drop_all (λ ys. in_turn step ys now) xs i h

-- the first of what is left
pub turn-next :
    {A B : Type 0} (step : A → B → Result B Fault) (left rest : List A) (x : A) (now later : B) (all : Result B Fault)
    → left ≡ x ∷ rest → in_turn step left now ≡ all → step x now ≡ Ok later → in_turn step rest later ≡ all
turn-next step left rest x now later all e h s =
    sym (ap (λ r. r >>= in_turn step rest) s) ∙ sym (ap (λ ls. in_turn step ls now) e) ∙ h

pub next-fails :
    {A B : Type 0} (step : A → B → Result B Fault) (left rest : List A) (x : A) (now : B) (why : Unread) (all : Result B Fault)
    → left ≡ x ∷ rest → in_turn step left now ≡ all → Fails why (step x now) → Fails why all
next-fails step left rest x now (unread.Wrong fault) all e h s =
    sym h ∙ ap (λ ls. in_turn step ls now) e ∙ ap (λ r. r >>= in_turn step rest) s
next-fails step left rest x now unread.OutOfMemory all e h s = tt

pub none-left :
    {A B : Type 0} (step : A → B → Result B Fault) (left : List A) (now : B) (all : Result B Fault) → left ≡ [] → in_turn step left now ≡ all
    → all ≡ Ok now
none-left step left now all e h = sym h ∙ ap (λ ls. in_turn step ls now) e
