-- What the upcall of an entry makes of the machine.
use Rattle.std.proofs.Common.{◌≡◌, Option, Some, List, slice_set, refl, sym, ap, subst, ◌∙◌}
use Rattle.std.proofs.lemmas.Option.{same_Some}
use Rattle.sa_base.specs.declared.number.ProcNo.{ProcNo}
use Rattle.sa_base.specs.declared.number.SpaceNo.{SpaceNo}
use Rattle.sa_base.specs.declared.context.Seen.{Seen}
use Rattle.sa_abstract.specs.Calls.{Calls}
use Rattle.sa_abstract.specs.Keeps.{Standing, IsBefore}
use Rattle.sa_kernel_model.specs.State.{KernelState, owner_of}
use Rattle.sa_kernel_model.specs.Sound.{AreClaimed}
use Rattle.sa_core_model.specs.Machine.{Machine, user_of, seen_on, with_pair, context_begun, answered}
use Rattle.sa_core_model.specs.Turn.{told_all, welcomed_in}
use Rattle.sa_core_model.specs.Standing.{Stands}
use Rattle.sa_machine.specs.Needs.{Welcomes}

module _ {U C : Type 0} (f : Calls U C) where
  begun-is : (p : ProcNo) (s : SpaceNo) (m : Machine U C) (u : U) → user_of m s ≡ Some u
      → context_begun f p s m ≡ with_pair p s (f.begun u (seen_on m p s)).0 (f.begun u (seen_on m p s)).1 m
  begun-is p s m u user = rw user refl

  pub begun-as : (p : ProcNo) (s : SpaceNo) (m : Machine U C) (u : U) (seen : Seen) (ctx : C) (us : List U) (cs : List (Option C))
      → user_of m s ≡ Some u → seen ≡ seen_on m p s → us ≡ slice_set m.users s.0 (f.begun u seen).0 → cs ≡ slice_set m.contexts p.0 (Some ctx)
      → ctx ≡ (f.begun u seen).1 → record m { users = us; contexts = cs } ≡ context_begun f p s m
  begun-as p s m u seen ctx us cs user is_seen is_us is_cs is_ctx =
      ap (λ zs. record m { users = zs; contexts = cs }) is_us
      ∙ ap (λ zs. record m { users = slice_set m.users s.0 (f.begun u seen).0; contexts = zs })
      (is_cs ∙ ap (λ z. slice_set m.contexts p.0 (Some z)) is_ctx)
      ∙ ap (λ (v : Seen). with_pair p s (f.begun u v).0 (f.begun u v).1 m) is_seen
      ∙ sym (begun-is p s m u user)

  pub welcomed-as : (p : ProcNo) (s : SpaceNo) (m a b n : Machine U C) (u : U) → owner_of m.kernel p ≡ Some s → user_of m s ≡ Some u → a ≡ context_begun f p s m
      → b ≡ told_all f p s a.kernel.telling a → n ≡ answered f p s b → n ≡ welcomed_in f p (owner_of m.kernel p) m
  welcomed-as p s m a b n u owner user is_a is_b is_n =
      let kernel : a.kernel ≡ m.kernel = ap (λ (z : Machine U C). z.kernel) (is_a ∙ begun-is p s m u user) in
      is_n ∙ ap (λ z. answered f p s z) (is_b
      ∙ ap (λ (k : KernelState C). told_all f p s k.telling a) kernel
      ∙ ap (λ z. told_all f p s m.kernel.telling z) is_a)
      ∙ sym (ap (λ o. welcomed_in f p o m) owner)

  module _ (stands : Standing U C) where
    -- once the context has begun
    pub record Begun (p : ProcNo) (s : SpaceNo) (a : Machine U C) : Type 0 where
      pub standing : Stands stands a.event a
      pub owner : owner_of a.kernel p ≡ Some s
      pub claimed : AreClaimed a.kernel s.0

    pub begun-so : (p : ProcNo) (s : SpaceNo) (m a : Machine U C) → Welcomes f stands p m → owner_of m.kernel p ≡ Some s → a ≡ context_begun f p s m → Begun p s a
    begun-so p s m a new owner is =
        let t : new.space ≡ s = same_Some new.space s (sym new.owner ∙ owner) in
        subst (λ z. Begun p s z) (sym (is ∙ ap (λ z. context_begun f p z m) (sym t)))
        (subst (λ z. Begun p z (context_begun f p new.space m)) t
        (let b = begun-is p new.space m new.user new.is_user in
        record {
          standing = subst (λ i. Stands stands i (context_begun f p new.space m)) (sym (ap (λ (z : Machine U C). z.event) b)) new.begins;
          owner = ap (λ (z : Machine U C). owner_of z.kernel p) b ∙ new.owner;
          claimed = subst (λ (k : KernelState C). AreClaimed k new.space.0) (sym (ap (λ (z : Machine U C). z.kernel) b)) new.claimed;
        }))

    pub user-so : (p : ProcNo) (s : SpaceNo) (m : Machine U C) → (new : Welcomes f stands p m) → owner_of m.kernel p ≡ Some s → user_of m s ≡ Some new.user
    user-so p s m new owner =
        let t : new.space ≡ s = same_Some new.space s (sym new.owner ∙ owner) in
        ap (λ z. user_of m z) (sym t) ∙ new.is_user

    pub before-so : (p : ProcNo) (s : SpaceNo) (m : Machine U C) (u : U) (seen : Seen) → Welcomes f stands p m → owner_of m.kernel p ≡ Some s
        → user_of m s ≡ Some u → seen ≡ seen_on m p s → IsBefore stands u seen
    before-so p s m u seen new owner user is =
        let t : new.space ≡ s = same_Some new.space s (sym new.owner ∙ owner) in
        let v : new.user ≡ u = same_Some new.user u (sym (user-so p s m new owner) ∙ user) in
        subst (λ (z : U). IsBefore stands z seen) v
        (subst (λ (z : Seen). IsBefore stands new.user z) (ap (λ (z : SpaceNo). seen_on m p z) t ∙ sym is) new.before)
