-- What a source tells to be left, over several reads.
use Rattle.std.proofs.Common.{◌≡◌, ℕ, ◌+◌, ◌≤◌, List, [], ◌++◌, length, take, Option, Some, None, refl, sym, ap, ◌∙◌, arith, length-append}
use Rattle.std.proofs.lemmas.List.{length-take}
use Rattle.std.proofs.lemmas.Bool.{false≢true}
use Rattle.std.proofs.KnownBytes.{Consumes-trans}
use Rattle.std.specs.Prelude.{IfSome, ◌↔◌}
use Rattle.std.specs.Io.KnownBytes.{Consumes}
use Rattle.sa_io.specs.Input.{ReadsInput, LosesAtMost}

-- a read of nothing ends the input
pub end-of-input : (limit : ℕ) (before at after : Option (List ℕ)) (bytes piece : List ℕ) (n : ℕ) → n ≡ 0 → length bytes ≤ limit + 1
    → Consumes before at bytes → Consumes at after (take n piece) → IfSome at (λ xs. (n ≡ 0) ↔ (xs ≡ []))
    → ReadsInput limit before after bytes
end-of-input limit None at after bytes piece n none within taken nothing end =
    record { taken = tt; end = λ told. absurd (false≢true told); limited = within }
end-of-input limit (Some xs) None after bytes piece n none within taken nothing end = absurd taken
end-of-input limit (Some xs) (Some ys) None bytes piece n none within taken nothing end = absurd nothing
end-of-input limit (Some xs) (Some ys) (Some zs) bytes piece n none within taken nothing end =
    let same : ys ≡ zs = nothing ∙ ap (λ k. take k piece ++ zs) none in
    record { taken = taken ∙ ap (λ v. bytes ++ v) same; end = λ told short. sym same ∙ end.0 none; limited = within }

-- what was lost before a read that gave more
pub lost-more : (most : ℕ) (before at after : Option (List ℕ)) (bytes piece : List ℕ) (n : ℕ) → Consumes before at bytes → Consumes at after (take n piece)
    → length bytes + n ≤ most → LosesAtMost most before after
lost-more most before at after bytes piece n taken then few =
    let all = length-append bytes (take n piece) in
    let more = length-take n piece in
    (bytes ++ take n piece, Consumes-trans before at after bytes (take n piece) taken then, omega arith)

-- a source that is not read loses nothing
pub loses-nothing : (most : ℕ) (left : Option (List ℕ)) → LosesAtMost most left left
loses-nothing most None = ([], tt, omega arith)
loses-nothing most (Some bytes) = ([], refl, omega arith)
