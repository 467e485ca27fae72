-- What was read in front of the lines, at each end of the loop.
use Rattle.std.proofs.Common.{◌≡◌, ℕ, ◌+◌, ◌<◌, ◌≤◌, List, [], ◌++◌, length, take, drop, Option, Some, refl, sym, ap, ◌∙◌, subst, inl, inr, arith, append_assoc, append-nil, take-append-drop, length-append}
use Rattle.std.proofs.lemmas.List.{length-take}
use Rattle.std.proofs.KnownBytes.{Consumes-trans}
use Rattle.std.specs.Prelude.{IfSome, ◌↔◌}
use Rattle.std.specs.Io.KnownBytes.{Consumes}
use Rattle.sa_lines_in.proofs.Filling.{at-end, still-told}
use Rattle.sa_front.specs.Front.{IsOpen, TakesPiece, ReadsFront}

-- the source is at its end
pub read-nothing : (limit : ℕ) (before at after : Option (List ℕ)) (text line piece shown kept : List ℕ) (n : ℕ) → shown ≡ text → kept ≡ []
    → Consumes before at text → length text ≤ limit + 1 → IsOpen text line → n ≡ 0 → Consumes at after (take n piece)
    → IfSome at (λ xs. (n ≡ 0) ↔ (xs ≡ [])) → ReadsFront limit before after shown kept
read-nothing limit before at after text line piece shown kept n is none taken few goes zero came end =
    let P : List ℕ → Type 0 = λ v. ReadsFront limit before after v kept in
    let Q : List ℕ → Type 0 = λ v. ReadsFront limit before after text v in
    let R : List ℕ → Type 0 = λ v. Consumes before after (text ++ v) in
    subst P (sym is) (subst Q (sym none) (record {
      taken = subst R (ap (λ k. take k piece) zero) (Consumes-trans before at after text (take n piece) taken came);
      few = few;
      whole = inr ((line, goes), refl, inl (λ told. at-end at after piece n (still-told before at text taken told) zero came end));
    }))

-- one byte more than the limit came
pub read-long : (limit : ℕ) (before at : Option (List ℕ)) (text line shown kept : List ℕ) → shown ≡ text → kept ≡ []
    → Consumes before at text → length text ≤ limit + 1 → limit < length text → IsOpen text line → ReadsFront limit before at shown kept
read-long limit before at text line shown kept is none taken few long goes =
    let P : List ℕ → Type 0 = λ v. ReadsFront limit before at v kept in
    let Q : List ℕ → Type 0 = λ v. ReadsFront limit before at text v in
    let R : List ℕ → Type 0 = λ v. Consumes before at v in
    subst P (sym is) (subst Q (sym none) (record {
      taken = subst R (sym (append-nil text)) taken;
      few = few;
      whole = inr ((line, goes), refl, inr (omega arith));
    }))

-- the line came that is `close`
pub read-closed : (limit : ℕ) (before at after : Option (List ℕ)) (text piece came shown kept : List ℕ) (line n : ℕ) (o : Option ℕ) (used : ℕ)
    → Consumes before at text → length text + n ≤ limit + 1 → Consumes at after (take n piece) → came ≡ take n piece
    → TakesPiece text shown line came o → o ≡ Some used → kept ≡ drop used came → ReadsFront limit before after shown kept
read-closed limit before at after text piece came shown kept line n o used taken few more is takes some rest =
    let T : Option ℕ → Type 0 = λ x. TakesPiece text shown line came x in
    let took = subst T some takes in
    let R : List ℕ → Type 0 = λ v. Consumes before after v in
    let len = ap length took.1 ∙ length-append text (take used came) in
    let part = length-take used came in
    let whole = ap length is ∙ length-take n piece in
    record {
      taken = subst R
          (ap (λ v. text ++ v) (sym is ∙ sym (take-append-drop used came)) ∙ sym (append_assoc text (take used came) (drop used came))
          ∙ ap (λ v. v ++ drop used came) (sym took.1) ∙ ap (λ v. shown ++ v) (sym rest))
          (Consumes-trans before at after text (take n piece) taken more);
      few = omega arith;
      whole = inl took.2;
    }
