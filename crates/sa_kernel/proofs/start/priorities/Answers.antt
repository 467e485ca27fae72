use Rattle.std.proofs.Common.{◌≡◌, ℕ, suc, ◌+◌, List, [], ◌∷◌, ◌++◌, map, take, length, get_or, sym, ap, ◌∙◌, arith}
use Rattle.std.proofs.lemmas.List.{map_push}
use Rattle.std.proofs.Math.Seq.{take-suc, take-length}
use Rattle.sa_spaces.specs.Space.{SpaceView}
use Rattle.sa_kernel.proofs.start.priorities.Goals as goal

pub loop-space-preserved : goal.loop-space-preserved
loop-space-preserved c =
    let priority : SpaceView → ℕ = λ s. s.priority in
    let spaces = c.args.spaces.now in
    let i = c.loop-space.space-index in
    let space = c.space-item.result in
    let next : suc i ≡ i + 1 = omega arith in
    c.in_ok-push.ensures.items ∙ ap (λ (xs : List ℕ). xs ++ c.priority.result ∷ []) c.loop-space.invariant
    ∙ ap (λ (n : ℕ). map priority (take i spaces) ++ n ∷ []) (c.priority.ensures.value ∙ ap priority c.space-item.is)
    ∙ sym (map_push priority (take i spaces) (get_or spaces i space)) ∙ ap (map priority) (sym (take-suc spaces i space c.loop-space-test.true))
    ∙ ap (λ (n : ℕ). map priority (take n spaces)) next

pub returns : goal.returns
returns c =
    let spaces = c.args.spaces.now in
    let all : c.loop-space.space-index ≡ length spaces = omega arith in
    c.loop-space.invariant
    ∙ ap (λ (n : ℕ). map (λ (s : SpaceView). s.priority) (take n spaces)) all
    ∙ ap (map (λ (s : SpaceView). s.priority)) (take-length spaces)
