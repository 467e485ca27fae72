-- Bytes that a text lacks, as a word lacks spaces and line feeds.
use Rattle.std.proofs.Common.{◌≡◌, ◌≢◌, ℕ, not, true, eqb, List, All, rules, tests}
use Rattle.std.specs.List.{list_all}
use Rattle.std.proofs.lemmas.List.Elements.{All-weaker}
use Rattle.std.proofs.lemmas.List.Sums.{AllPass-from_list_all}

-- a test that computes shows it, as `refl` at a literal
pub lacks_by_test : (c : ℕ) (bytes : List ℕ) → list_all (λ b. not (eqb b c)) bytes ≡ true → All (λ b. b ≢ c) bytes
lacks_by_test c bytes t =
    All-weaker (λ b. not (eqb b c) ≡ true) (λ b. b ≢ c) (λ b n. search (rules, tests)) bytes (AllPass-from_list_all (λ b. not (eqb b c)) bytes t)
