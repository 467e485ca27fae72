use Rattle.std.proofs.Common.{◌≡◌, ℕ, ◌<◌, ◌++◌, [], ◌∷◌, None, Some, Option, List, length, if◌then◌else◌, arith, sym, ap, ◌∙◌}
use Rattle.std.proofs.lemmas.Bool.{cond_below}
use Rattle.std.specs.Str.{bytes_eq}
use Rattle.sa_explore_model.specs.declared.answer.State.{State}
use Rattle.sa_states.specs.Store.{StoreView, store_of, with_state, arrived_by, arrived}
use Rattle.sa_states.proofs.Numbers.{numbers-after}
use Rattle.sa_states.proofs.store.Store.arrive.Goals as goal

room : (most : ℕ) (key : List ℕ) (s : State) (old new : StoreView) → old.number key ≡ None → length old.states < most → new ≡ with_state key s old
    → (new, Some (length old.states)) ≡ arrived most key s old
room most key s old new absent below is =
    ap (λ (z : StoreView). (z, Some (length old.states))) is
    ∙ sym (ap (λ (o : Option ℕ). arrived_by o most key s old) absent
    ∙ sym (cond_below (length old.states) most (with_state key s old, Some (length old.states)) (old, None) below))

with-new : (old new : StoreView) (key : List ℕ) (s : State) (n : ℕ) → new.states ≡ old.states ++ s ∷ []
    → (let put : List ℕ → Option ℕ = λ bytes. if bytes_eq key bytes then Some n else old.number bytes in new.number ≡ put)
    → n ≡ length old.states → new ≡ with_state key s old
with-new old new key s n states number is =
    let of : List State → (List ℕ → Option ℕ) → StoreView = λ xs f. record { states = xs; number = f } in
    ap (λ (xs : List State). of xs new.number) states
    ∙ ap (λ (f : List ℕ → Option ℕ). of (old.states ++ s ∷ []) f) number
    ∙ ap (λ (k : ℕ). of (old.states ++ s ∷ []) (λ bytes. if bytes_eq key bytes then Some k else old.number bytes)) is

pub returns : goal.returns
returns c =
    let old : StoreView = store_of c.args.self.now in
    let new : StoreView = store_of (record { states = c.push.new.self; numbers = c.insert.new.self }) in
    let absent : old.number c.args.key.items ≡ None = sym c.in_default.ensures.value in
    let size : length c.states.result.now ≡ length old.states = ap length c.states.ensures in
    let below : length old.states < c.args.most = omega (arith, size, c.requires, c.if-number-most.false) in
    let put = numbers-after c.args.self.now.numbers c.insert.new.self c.args.key (length c.states.result.now) c.in_ok-insert.ensures.updates in
    record {
      ok = ap (λ (n : ℕ). (new, Some n)) size
          ∙ room c.args.most c.args.key.items c.args.state old new absent below (with-new old new c.args.key.items c.args.state (length c.states.result.now)
          c.in_ok-push.ensures.items put size);
    }
