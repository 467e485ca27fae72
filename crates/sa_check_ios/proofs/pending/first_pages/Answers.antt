use Rattle.std.proofs.Common.{◌<◌, ◌^◌, ◌-◌, ◌++◌, ◌∷◌, [], ℕ, List, length, map, take, sym, ap, ◌∙◌, arith}
use Rattle.std.proofs.lemmas.List.{map_more}
use Rattle.sa_devices.specs.Pages.{opening_pages, without_pages}
use Rattle.sa_check_ios.proofs.pending.first_pages.Goals as goal

pub loop-space-preserved : goal.loop-space-preserved
loop-space-preserved c =
    let i = c.loop-space.space-index in
    let spaces = c.args.spaces.now in
    let within : i < length spaces = omega (arith, c.loop-space-test.true) in
    c.in_ok-push.ensures.items ∙ ap (λ (pages : List ℕ). pages ++ c.all_but.result ∷ []) c.loop-space.invariant
    ∙ ap (λ (n : ℕ). map opening_pages (take i spaces) ++ n ∷ [])
    (c.all_but.ensures ∙ ap (without_pages (2 ^ 16 - 1)) c.absent.ensures.value ∙ ap opening_pages c.space-item.is)
    ∙ sym (map_more opening_pages spaces i c.space-item.result within)
