use Rattle.std.proofs.Common.{◌≡◌, ℕ, ◌-◌, ◌^◌, List, map, length, take, replicate, All, [], ◌∷◌, ◌++◌, sym, ap, subst, ◌∙◌, arith}
use Rattle.std.proofs.lemmas.Grind.{common_steps}
use Rattle.std.proofs.lemmas.List.{length-map, length-take-le, map_more, replicate-append-replicate}
use Rattle.sa_spaces.specs.declared.workload.Evict.{Evict}
use Rattle.sa_spaces.specs.Space.{SpaceView}
use Rattle.sa_spaces.specs.Workload.{IsEviction}
use Rattle.sa_devices.specs.Pages.{opening_pages, without_pages}
use Rattle.sa_devices.specs.Sound.{IsSound}
use Rattle.sa_devices.proofs.SoundLemmas.{IsSound-new}
use Rattle.sa_devices.proofs.devices.Devices.new.Goals as goal

pub invariant_of-result : goal.invariant_of-result
invariant_of-result c =
    let spaces = c.spaces-space-items.result.now in
    let evictions = c.evictions.result.now in
    let i = c.loop-space.space-index in
    let all : i ≡ length spaces = omega arith in
    let counted = c.loop-space.invariant.fetching ∙ ap (λ (n : ℕ). replicate n 0) all in
    let size : length c.loop-space.pages.items ≡ length spaces =
    ap length c.loop-space.invariant.pages ∙ length-map (take i spaces) opening_pages ∙ length-take-le i spaces (omega arith) ∙ all in
    let in_range = subst (λ (xs : List SpaceView). All (IsEviction (length xs)) evictions) (sym c.spaces-space-items.ensures.value) c.evictions.ensures.range in
    subst (λ (es : List Evict). IsSound c.new.result c.loop-space.fetching.items c.loop-space.pages.items es) (sym c.in_ok-from_slice.ensures.items)
    (IsSound-new c.new.result c.loop-space.fetching.items c.loop-space.pages.items evictions
    (length spaces) c.new.ensures counted size in_range c.evictions.ensures.rise)

pub push-requires : goal.push-requires
push-requires c = (omega arith, grind (arith, common_steps))

pub push-requires-in-loop-space : goal.push-requires-in-loop-space
push-requires-in-loop-space c = (omega arith, grind (arith, common_steps))

pub loop-space-preserved : goal.loop-space-preserved
loop-space-preserved c = record {
  fetching = c.push.ensures.items ∙ ap (λ (ns : List ℕ). ns ++ 0 ∷ []) c.loop-space.invariant.fetching ∙ replicate-append-replicate c.loop-space.space-index 1 0;
  pages = c.push-in-loop-space.ensures.items
      ∙ ap (λ (ps : List ℕ). ps ++ c.all_but.result ∷ []) c.loop-space.invariant.pages
      ∙ ap (λ (p : ℕ). map opening_pages (take c.loop-space.space-index c.spaces-space-items.result.now) ++ p ∷ [])
      (c.all_but.ensures ∙ ap (without_pages (2 ^ 16 - 1)) c.absent.ensures.value ∙ ap opening_pages c.space-item.is)
      ∙ sym (map_more opening_pages c.spaces-space-items.result.now c.loop-space.space-index c.space-item.result c.loop-space-test.true);
}
