use Rattle.std.proofs.Common.{◌≡◌, ◌≤◌, ◌||◌, false, List, Bool, length, sym, ap, ◌∙◌, arith}
use Rattle.std.proofs.lemmas.List.{ext_get_or}
use Rattle.std.proofs.lemmas.Simd.{get_or-zip2}
use Rattle.sa_base.specs.declared.limits.TheConstants.{MAX_THREADS}
use Rattle.sa_driven_model.specs.Threads.{both_sets}
use Rattle.sa_driven_model.proofs.Sets.{length-both}
use Rattle.sa_driven_model.proofs.threads.ThreadSet.add_all.Goals as goal

pub returns : goal.returns
returns c =
    let now : List Bool = c.loop-t.self-inside.is_in in
    let old : List Bool = c.self.inside.is_in in
    let others : List Bool = c.others.inside.is_in in
    let inv = c.loop-t.invariant in
    let all_old : length old ≡ MAX_THREADS = c.self.invariant in
    let all_others : length others ≡ MAX_THREADS = c.others.invariant in
    let past : MAX_THREADS ≤ c.loop-t.t = c.loop-t-test.false in
    ext_get_or false now (both_sets old others) (inv.all ∙ sym (length-both old others (all_old ∙ sym all_others) ∙ all_old))
    (λ i inside. inv.done i (omega (arith, inside, inv.all, past))
    ∙ sym (get_or-zip2 (λ a b. a || b) old others i false false false (omega (arith, inside, inv.all, all_old)) (omega (arith, inside, inv.all, all_others))))
    ∙ ap (both_sets old) c.others.view_is ∙ ap (λ s. both_sets s c.args.others.now) c.self.view_is
