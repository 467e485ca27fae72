-- What is told item by item.
use Rattle.std.proofs.Common.{◌≡◌, ℕ, zero, suc, ◌+◌, ◌<◌, List, [], ◌∷◌, ◌++◌, length, get_or, take, drop, refl, sym, ap, ◌∙◌, subst, append_assoc, arith}
use Rattle.sa_base.specs.declared.record.Item.{Item}
use Rattle.sa_spaces.specs.Workload.{WorkloadView}
use Rattle.sa_laws.specs.State.{State, opening_state}
use Rattle.sa_replay.specs.Needs.{CanChange}
use Rattle.sa_debug.specs.Reached.{CanPlay}
use Rattle.sa_debug.specs.Views.{state_behind}
use Rattle.sa_debug.proofs.Playing.{can-next}
use Rattle.sa_replies.specs.Telling.{Telling, opened, told_after, told_through, item_text, items_text}

-- what is known after some items has the workload, and the state after them
through-workload : (x : Telling) (items : List Item) → (told_through x items).replay.workload ≡ x.replay.workload
through-workload x [] = refl
through-workload x (i ∷ is) = through-workload (told_after x i) is

through-state : (x : Telling) (items : List Item) → (told_through x items).replay.state ≡ state_behind x.replay.workload x.replay.state items
through-state x [] = refl
through-state x (i ∷ is) = through-state (told_after x i) is

-- THE NEXT ITEM can be played.
pub tells-next : (w : WorkloadView) (items seen : List Item) (n : ℕ) (d : Item) (x : Telling) → seen ≡ items
    → x ≡ told_through (opened w) (take n items) → CanPlay w (opening_state w) items → n < length items
    → CanChange x.replay.workload (get_or seen n d).proc x.replay.state (get_or seen n d).what
tells-next w items seen n d x same is plays within =
    let can = can-next w (opening_state w) items n d plays within in
    let workload : x.replay.workload ≡ w = ap (λ (t : Telling). t.replay.workload) is ∙ through-workload (opened w) (take n items) in
    let state : x.replay.state ≡ state_behind w (opening_state w) (take n items) =
    ap (λ (t : Telling). t.replay.state) is ∙ through-state (opened w) (take n items) in
    subst (λ (i : Item). CanChange x.replay.workload i.proc x.replay.state i.what) (sym (ap (λ (xs : List Item). get_or xs n d) same))
    (subst (λ (v : WorkloadView). CanChange v (get_or items n d).proc x.replay.state (get_or items n d).what) (sym workload)
    (subst (λ (a : State). CanChange w (get_or items n d).proc a (get_or items n d).what) (sym state) can))

-- what is known after one item more
pub through-next : (x : Telling) (items : List Item) (n : ℕ) (d : Item) → n < length items
    → told_through x (take (n + 1) items) ≡ told_after (told_through x (take n items)) (get_or items n d)
through-next x [] n d within = absurd (omega arith)
through-next x (i ∷ is) zero d within = refl
through-next x (i ∷ is) (suc n) d within =
    let more : suc n + 1 ≡ suc (n + 1) = omega arith in
    ap (λ k. told_through x (take k (i ∷ is))) more ∙ through-next (told_after x i) is n d (omega arith)

-- the lines from an item on are its own and those of the rest
pub text-next : (x : Telling) (items : List Item) (n : ℕ) (d : Item) → n < length items
    → items_text x (drop n items)
    ≡ item_text (told_after x (get_or items n d)) (get_or items n d) ++ items_text (told_after x (get_or items n d)) (drop (n + 1) items)
text-next x [] n d within = absurd (omega arith)
text-next x (i ∷ is) zero d within = refl
text-next x (i ∷ is) (suc n) d within =
    let more : suc (n + 1) ≡ suc n + 1 = omega arith in
    let one = get_or is n d in
    text-next x is n d (omega arith) ∙ ap (λ k. item_text (told_after x one) one ++ items_text (told_after x one) (drop k (i ∷ is))) more

-- THE NEXT ITEM is told: of it, what is known is known of one item more,
pub told-next : (w : WorkloadView) (items seen : List Item) (n : ℕ) (d : Item) (x y : Telling) → seen ≡ items
    → x ≡ told_through (opened w) (take n items) → n < length items → y ≡ told_after x (get_or seen n d)
    → y ≡ told_through (opened w) (take (n + 1) items)
told-next w items seen n d x y same knows within is =
    is
    ∙ ap (λ (i : Item). told_after x i) (ap (λ (xs : List Item). get_or xs n d) same)
    ∙ ap (λ (z : Telling). told_after z (get_or items n d)) knows
    ∙ sym (through-next (opened w) items n d within)

-- and what was said, with the lines of the others, is what it was.
pub text-told : (items seen : List Item) (n : ℕ) (d : Item) (x y : Telling) (said now all : List ℕ) → seen ≡ items → n < length items
    → y ≡ told_after x (get_or seen n d) → said ++ items_text x (drop n items) ≡ all → now ≡ said ++ item_text y (get_or seen n d)
    → now ++ items_text y (drop (n + 1) items) ≡ all
text-told items seen n d x y said now all same within is whole is_now =
    let one = get_or items n d in
    let at : get_or seen n d ≡ one = ap (λ (xs : List Item). get_or xs n d) same in
    let after : y ≡ told_after x one = is ∙ ap (λ (i : Item). told_after x i) at in
    ap (λ (bs : List ℕ). bs ++ items_text y (drop (n + 1) items)) (is_now ∙ ap (λ (i : Item). said ++ item_text y i) at)
    ∙ append_assoc said (item_text y one) (items_text y (drop (n + 1) items))
    ∙ ap (λ (z : Telling). said ++ (item_text z one ++ items_text z (drop (n + 1) items))) after
    ∙ ap (λ (bs : List ℕ). said ++ bs) (sym (text-next x items n d within))
    ∙ whole
