use Rattle.std.proofs.Common.{◌≡◌, ◌∷◌, ◌++◌, [], List, ℕ, ap, sym, ◌∙◌, append_assoc, arith}
use Rattle.std.specs.Int.{to_le_bytes, w16, w64}
use Rattle.sa_package_keys.proofs.Codes.{number-small, number-middle, number-large}
use Rattle.sa_package_keys.proofs.put.put_number.Goals as goal

pub returns-then-n-lt254 : goal.returns-then-n-lt254
returns-then-n-lt254 c =
    c.in_ok-push.ensures.items ∙ ap (λ (z : List ℕ). c.args.key.now.items ++ z) (sym (number-small c.args.n c.if-n-lt254.true))

pub returns-then-n : goal.returns-then-n
returns-then-n c =
    let old = c.args.key.now.items in
    let bytes = c.to_le_bytes.result in
    let is : bytes ≡ to_le_bytes w16 c.args.n = c.to_le_bytes.ensures in
    c.in_ok-extend_from_slice.ensures.items
    ∙ ap (λ (z : List ℕ). z ++ bytes) c.in_ok-push-2.ensures.items
    ∙ append_assoc old (254 ∷ []) bytes
    ∙ ap (λ (z : List ℕ). old ++ 254 ∷ z) is
    ∙ ap (λ (z : List ℕ). old ++ z) (sym (number-middle c.args.n c.if-n-lt254.false (omega arith)))

pub returns : goal.returns
returns c =
    let old = c.args.key.now.items in
    let bytes = c.to_le_bytes-2.result in
    let is : bytes ≡ to_le_bytes w64 c.args.n = c.to_le_bytes-2.ensures in
    c.in_ok-extend_from_slice-2.ensures.items
    ∙ ap (λ (z : List ℕ). z ++ bytes) c.in_ok-push-3.ensures.items
    ∙ append_assoc old (255 ∷ []) bytes
    ∙ ap (λ (z : List ℕ). old ++ 255 ∷ z) is
    ∙ ap (λ (z : List ℕ). old ++ z) (sym (number-large c.args.n (omega arith) c.ranges.n.fits))
