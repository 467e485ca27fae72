use Rattle.std.proofs.Common.{◌≡◌, ◌↔◌, sym, ◌∙◌, ap, subst, refl, true, false, is_none}
use Rattle.std.specs.List.{list_all}
use Rattle.sa_laws.specs.Ends.{IsStuck, IsAllDone, are_at_rest}
use Rattle.sa_check_lives.specs.Table.{SomeIsIn}
use Rattle.sa_check_lives.specs.View.{lives_of}
use Rattle.sa_check_moment.specs.Seen.{Kept, seen}
use Rattle.sa_check_moment.specs.KeptFields.{kept_in}
use Rattle.sa_check_moment.proofs.EndLemmas.{stuck-from, are_low, not_in, not-iff, empty}
use Rattle.sa_check_moment.proofs.moment.Moment.is_stuck.Goals as goal

pub returns-then-not-all_low : goal.returns-then-not-all_low
unfolding seen
returns-then-not-all_low c =
    let same = ap kept_in c.deref-parts.ensures ∙ c.self.view_is in (
      λ f. let bad : false ≡ true = f in cc,
      λ stuck. c.if-not-all_low.ensures ∙ ap (λ (k : Kept). list_all is_none k.board.lines) same ∙ are_low _ stuck,
    )

pub returns : goal.returns
unfolding seen
returns c =
    let r = (seen c.args.self.now).readings in
    let same = ap kept_in c.deref-parts.ensures ∙ c.self.view_is in
    let unsettled : IsAllDone r → ⊥ = λ done. let bad : false ≡ true = c.if-are_all_done.ensures.1 done in cc in
    not-iff c.some_is_in.result (SomeIsIn r.lives) (IsStuck r)
    (subst (λ (k : Kept). (c.some_is_in.result ≡ true) ↔ SomeIsIn (lives_of k.lives).lives) same c.some_is_in.ensures)
    (stuck-from r unsettled
    (subst (λ (k : Kept). list_all are_at_rest k.state.spaces ≡ true) same (c.if-not-are_all_at_rest.ensures.0 refl))
    (empty r.under_way (λ some. let bad : false ≡ true = c.if-is_busy.ensures.1 some in cc))
    (sym (c.if-not-all_low.ensures ∙ ap (λ (k : Kept). list_all is_none k.board.lines) same)))
    (not_in r)
