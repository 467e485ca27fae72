-- The bytes of an outcome say it.
use Rattle.std.proofs.Common.{◌≡◌, ℕ, List, [], ◌++◌, refl, sym, ap, ◌∙◌, append_assoc}
use Rattle.sa_base.specs.declared.record.End.{End}
use Rattle.sa_base.specs.declared.record.End.TheVariants.{AllDone, Stuck, Budget}
use Rattle.sa_outlook.specs.declared.put.Put.{Put}
use Rattle.sa_package_keys.specs.Codes.{IsPrefixCode, number, list}
use Rattle.sa_package_keys.proofs.Codes.{number-code, list-code}
use Rattle.sa_keys.specs.Outs.{put_key}
use Rattle.sa_keys.specs.Outcome.{OutcomeView, end_key}
use Rattle.sa_keys.specs.Laws.{KeysTellOutcomes}
use Rattle.sa_keys.proofs.PutLemmas.{put-code}

abbrev end_no : End → ℕ
end_no AllDone = 0
end_no Stuck = 1
end_no Budget = 2

end-bytes : (e : End) → end_key e ≡ number (end_no e)
end-bytes AllDone = refl
end-bytes Stuck = refl
end-bytes Budget = refl

same-end : (d e : End) → end_no d ≡ end_no e → d ≡ e
same-end AllDone AllDone is = refl
same-end Stuck Stuck is = refl
same-end Budget Budget is = refl
same-end AllDone Stuck is = absurd cc
same-end AllDone Budget is = absurd cc
same-end Stuck AllDone is = absurd cc
same-end Stuck Budget is = absurd cc
same-end Budget AllDone is = absurd cc
same-end Budget Stuck is = absurd cc

end-code : IsPrefixCode end_key
end-code d e r s same =
    let both = number-code (end_no d) (end_no e) r s
    (sym (ap (λ (l : List ℕ). l ++ r) (end-bytes d)) ∙ same ∙ ap (λ (l : List ℕ). l ++ s) (end-bytes e)) in
    (same-end d e both.0, both.1)

pub outcomes-tell : KeysTellOutcomes
outcomes-tell x y same =
    let cells = list (list number) in
    let one = end-code x.end y.end (cells x.cells ++ list put_key x.outs) (cells y.cells ++ list put_key y.outs) (simp append_assoc at same) in
    let two = list-code (list number) (list-code number number-code) x.cells y.cells (list put_key x.outs) (list put_key y.outs) one.1 in
    let three = list-code put_key put-code x.outs y.outs [] [] (ap (λ (l : List ℕ). l ++ []) two.1) in
    joined x.end y.end x.cells y.cells x.outs y.outs one.0 two.0 three.0
  where
    joined : (d e : End) (c b : List (List ℕ)) (o p : List Put) → d ≡ e → c ≡ b → o ≡ p
        → (let v : OutcomeView = record { end = d; cells = c; outs = o } in v) ≡ record { end = e; cells = b; outs = p }
    joined d e c b o p e1 e2 e3 = rw (e1, e2, e3) refl
