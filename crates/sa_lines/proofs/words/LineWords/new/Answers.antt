use Rattle.std.proofs.Common.{◌≡◌, ◌*◌, zero, suc, ℕ, take, replicate, slice_index, refl, arith}
use Rattle.std.proofs.lemmas.List.{length-take}
use Rattle.sa_lines.proofs.Ends.{opens}
use Rattle.sa_lines.proofs.words.LineWords.new.Goals as goal

zeros : (n m i : ℕ) → slice_index (take n (replicate m 0)) i ≡ 0
zeros zero m i = refl
zeros (suc n) zero i = refl
zeros (suc n) (suc m) zero = refl
zeros (suc n) (suc m) (suc i) = zeros n m i

pub of_words-requires : goal.of_words-requires
of_words-requires c =
    let few = c.requires.few in
    let long = length-take {A = ℕ} (2 * c.args.processors) (replicate 32 0) in
    opens (take (2 * c.args.processors) (replicate 32 0)) c.args.processors (omega (arith, few, long)) (λ i. zeros (2 * c.args.processors) 32 i)
