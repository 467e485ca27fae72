-- What calls of a user level need, and what they make of the machine.
use Rattle.std.proofs.Common.{◌≡◌, ℕ, zero, suc, ◌+◌, ◌<◌, ◌≤◌, Bool, true, false, cond, Option, Some, None, IsSome, List, [], ◌∷◌, ◌++◌, length, get_or, slice_get, slice_set, drop, refl, sym, ap, subst, ◌∙◌, arith}
use Rattle.std.specs.Option.{option_map}
use Rattle.std.proofs.lemmas.Option.{same_Some}
use Rattle.sa_base.specs.declared.number.ProcNo.{ProcNo}
use Rattle.sa_base.specs.declared.number.SpaceNo.{SpaceNo}
use Rattle.sa_base.specs.declared.context.Seen.{Seen}
use Rattle.sa_base.specs.declared.context.Stopped.{Stopped}
use Rattle.sa_base.specs.declared.limits.TheConstants.{MAX_EVENTS}
use Rattle.sa_base.specs.declared.record.Item.{Item}
use Rattle.sa_base.specs.declared.record.Note.{Note}
use Rattle.sa_base.specs.declared.record.Note.TheVariants.{Add, Preempted, Blocked, Unblocked}
use Rattle.sa_base.specs.Items.{items_at, items_from}
use Rattle.sa_abstract.specs.Calls.{Calls, Stepped, Gone}
use Rattle.sa_abstract.specs.Keeps.{Standing, Keeps, IsOf, IsSeenOf, IsStep, IsTelling, IsGoing, StaysLocal}
use Rattle.sa_abstract.specs.declared.answer.Step.{Step}
use Rattle.sa_abstract.specs.declared.answer.SeatState.{SeatState}
use Rattle.sa_kernel_model.specs.State.{KernelState, owner_of}
use Rattle.sa_kernel_model.specs.Entries.{held_for, next_note, after_fetch, fetched}
use Rattle.sa_kernel_model.specs.Sound.{AreClaimed}
use Rattle.sa_spaces.specs.Space.{SpaceView}
use Rattle.sa_core_model.specs.Machine.{Machine, user_of, context_on, seen_on, without_context, called, told, stopped_by, stopped_in, stepped, gone}
use Rattle.sa_core_model.specs.Turn.{told_one, told_all, gone_in}
use Rattle.sa_core_model.specs.End.{local_on}
use Rattle.sa_core_model.specs.Run.{setting, CanGo}
use Rattle.sa_core_model.specs.Standing.{Stands}
use Rattle.sa_core_model.proofs.Phases.{IsAt, at-owned}
use Rattle.sa_core_model.proofs.Calls.{is-of, is-seen_of, is-step, is-going, value-at, mine, handed-next, tells-next}
use Rattle.sa_core_model.proofs.Turns.{step-law}
use Rattle.sa_core_model.proofs.Runs.{local-is}
use Rattle.sa_machine.specs.Users.{stopped_of}

-- a context that was read in its place
pub read-ctx : {C : Type 0} (cs : List (Option C)) (i j : ℕ) (x : Option C) (d : C) → i < length cs → j ≡ i → x ≡ get_or cs j x → x ≡ Some d
    → get_or cs i None ≡ Some d
read-ctx cs i j x d within here read is = any cs i within (x) ∙ sym (ap (λ n. get_or cs n x) here) ∙ sym read ∙ is
  where
    any : {C : Type 0} (cs : List (Option C)) (i : ℕ) → i < length cs → (x : Option C) → get_or cs i None ≡ get_or cs i x
    any [] i below x = absurd (omega (arith, below))
    any (c ∷ cs) zero below x = refl
    any (c ∷ cs) (suc i) below x = any cs i (omega (arith, below)) x

-- the same where no context was
pub read-none : {C : Type 0} (cs : List (Option C)) (i j : ℕ) (x : Option C) → j ≡ i → x ≡ get_or cs j x → x ≡ None → get_or cs i None ≡ None
read-none cs i j x here read is = sym (ap (λ n. get_or cs n None) here) ∙ sym (ap (λ z. get_or cs j z) is) ∙ sym read ∙ is

module _ {C : Type 0} where
  -- the next notice, and what comes with it
  pub record IsNote (k : KernelState C) (note : Note) (held : Option (Stopped C)) : Type 0 where
    pub notes : List Note
    pub telling : k.telling ≡ note ∷ notes
    pub held_is : held ≡ held_for k note

  pub next-is : (k : KernelState C) (note : Note) (held : Option (Stopped C)) → ◌≡◌ {A = Option (Note × Option (Stopped C))} (Some (note, held)) (next_note k)
      → IsNote k note held
  next-is k note held is = go k.telling refl is
    where
      go : (ns : List Note) → k.telling ≡ ns
          → ◌≡◌ {A = Option (Note × Option (Stopped C))} (Some (note, held)) (option_map (λ n. (n, held_for k n)) (slice_get ns 0)) → IsNote k note held
      go [] e none = absurd cc
      go (n ∷ ns) e some =
          let pair : ◌≡◌ {A = Note × Option (Stopped C)} (note, held) (n, held_for k n) = same_Some (note, held) (n, held_for k n) some in
          let first : note ≡ n = ap (λ (z : Note × Option (Stopped C)). z.0) pair in
          record {
            notes = ns;
            telling = e ∙ ap (λ z. z ∷ ns) (sym first);
            held_is = ap (λ (z : Note × Option (Stopped C)). z.1) pair ∙ ap (held_for k) (sym first);
          }

  pub next-some : (k : KernelState C) (note : Note) (held : Option (Stopped C)) → ◌≡◌ {A = Option (Note × Option (Stopped C))} (Some (note, held)) (next_note k)
      → k.telling ≡ [] → ⊥
  next-some k note held is none =
      let next = next-is k note held is in
      let e : note ∷ next.notes ≡ [] = sym next.telling ∙ none in
      cc

  -- where no notice is left
  pub next-none : (k : KernelState C) (note : Note) (notes : List Note) → ◌≡◌ {A = Option (Note × Option (Stopped C))} None (next_note k)
      → k.telling ≡ note ∷ notes → ⊥
  next-none k note notes is some =
      let e : ◌≡◌ {A = Option (Note × Option (Stopped C))} None (Some (note, held_for k note)) =
      is ∙ ap (λ ns. option_map (λ n. (n, held_for k n)) (slice_get ns 0)) some in
      cc

  held-same : (k : KernelState C) (notes : List Note) (note : Note) → held_for (record k { telling = notes }) note ≡ held_for k note
  held-same k notes (Add p) = refl
  held-same k notes (Preempted a) = refl
  held-same k notes (Blocked a) = refl
  held-same k notes (Unblocked a) = refl

module _ {U C : Type 0} where
  -- a call as it changes the machine
  pub called-as : (call : U → C → U × C) (p : ProcNo) (s : SpaceNo) (m : Machine U C) (u : U) (c d : C) (us : List U) (cs : List (Option C))
      → user_of m s ≡ Some u → context_on m p ≡ Some c
      → us ≡ slice_set m.users s.0 (call u c).0 → cs ≡ slice_set m.contexts p.0 (Some d) → d ≡ (call u c).1
      → record m { users = us; contexts = cs } ≡ called call p s m
  called-as call p s m u c d us cs user ctx is_us is_cs is_d =
      ap (λ zs. record m { users = zs; contexts = cs }) is_us
      ∙ ap (λ zs. record m { users = slice_set m.users s.0 (call u c).0; contexts = zs }) (is_cs ∙ ap (λ z. slice_set m.contexts p.0 (Some z)) is_d)
      ∙ sym (the-call user ctx)
    where
      the-call : user_of m s ≡ Some u → context_on m p ≡ Some c
          → called call p s m ≡ record m { users = slice_set m.users s.0 (call u c).0; contexts = slice_set m.contexts p.0 (Some (call u c).1) }
      the-call a b = rw (a, b) refl

  pub stepped-as : (f : Calls U C) (p : ProcNo) (s : SpaceNo) (m : Machine U C) (u : U) (c d : C) (us : List U) (cs : List (Option C)) (items : List Item)
      (answer : Step) (seen : Seen)
      → user_of m s ≡ Some u → context_on m p ≡ Some c → seen ≡ seen_on m p s → us ≡ slice_set m.users s.0 (f.stepped u seen c).user
      → cs ≡ slice_set m.contexts p.0 (Some d)
      → d ≡ (f.stepped u seen c).ctx → items ≡ m.items ++ items_at seen.event seen.proc (f.stepped u seen c).says → answer ≡ (f.stepped u seen c).answer
      → (record m { users = us; contexts = cs; items = items }, answer) ≡ stepped f p s m
  stepped-as f p s m u c d us cs items answer seen user ctx is_seen is_us is_cs is_d is_items is_answer =
      let r = f.stepped u seen c in
      ap (λ zs. (record m { users = zs; contexts = cs; items = items }, answer)) is_us
      ∙ ap (λ zs. (record m { users = slice_set m.users s.0 r.user; contexts = zs; items = items }, answer))
      (is_cs ∙ ap (λ z. slice_set m.contexts p.0 (Some z)) is_d)
      ∙ ap (λ zs. (record m { users = slice_set m.users s.0 r.user; contexts = slice_set m.contexts p.0 (Some r.ctx); items = zs }, answer)) is_items
      ∙ ap (λ z. (made seen r, z)) is_answer
      ∙ ap (λ (v : Seen). (made v (f.stepped u v c), (f.stepped u v c).answer)) is_seen
      ∙ sym (the-step user ctx)
    where
      made : Seen → Stepped U C → Machine U C
      made v r =
          record m { users = slice_set m.users s.0 r.user; contexts = slice_set m.contexts p.0 (Some r.ctx); items = m.items ++ items_at v.event v.proc r.says }

      the-step : user_of m s ≡ Some u → context_on m p ≡ Some c
          → stepped f p s m ≡ (made (seen_on m p s) (f.stepped u (seen_on m p s) c), (f.stepped u (seen_on m p s) c).answer)
      the-step a b = rw (a, b) refl

  pub gone-as : (f : Calls U C) (p : ProcNo) (s : SpaceNo) (n : ℕ) (m : Machine U C) (u : U) (c d : C) (us : List U) (cs : List (Option C))
      (items : List Item) (seen : Seen)
      → owner_of m.kernel p ≡ Some s → user_of m s ≡ Some u → context_on m p ≡ Some c → seen ≡ seen_on m p s
      → us ≡ slice_set m.users s.0 (f.went u seen c n).user
      → cs ≡ slice_set m.contexts p.0 (Some d) → d ≡ (f.went u seen c n).ctx → items ≡ m.items ++ items_from seen.event seen.proc (f.went u seen c n).says
      → record m { users = us; contexts = cs; items = items } ≡ gone_in f p n (owner_of m.kernel p) m
  gone-as f p s n m u c d us cs items seen owner user ctx is_seen is_us is_cs is_d is_items =
      let r = f.went u seen c n in
      ap (λ zs. record m { users = zs; contexts = cs; items = items }) is_us
      ∙ ap (λ zs. record m { users = slice_set m.users s.0 r.user; contexts = zs; items = items }) (is_cs ∙ ap (λ z. slice_set m.contexts p.0 (Some z)) is_d)
      ∙ ap (λ zs. record m { users = slice_set m.users s.0 r.user; contexts = slice_set m.contexts p.0 (Some r.ctx); items = zs }) is_items
      ∙ ap (λ (v : Seen). made v (f.went u v c n)) is_seen
      ∙ sym (ap (λ (o : Option SpaceNo). gone_in f p n o m) owner ∙ the-run user ctx)
    where
      made : Seen → Gone U C → Machine U C
      made v r =
          record m {
            users = slice_set m.users s.0 r.user;
            contexts = slice_set m.contexts p.0 (Some r.ctx);
            items = m.items ++ items_from v.event v.proc r.says;
          }

      the-run : user_of m s ≡ Some u → context_on m p ≡ Some c → gone f p s n m ≡ made (seen_on m p s) (f.went u (seen_on m p s) c n)
      the-run a b = rw (a, b) refl

  -- a context that was taken from its processor
  pub without-as : (p : ProcNo) (m : Machine U C) (i : ℕ) (left : Option C) → i ≡ p.0 → left ≡ None
      → record m { contexts = slice_set m.contexts i left } ≡ without_context p m
  without-as p m i left here is =
      ap (λ n. record m { contexts = slice_set m.contexts n left }) here ∙ ap (λ z. record m { contexts = slice_set m.contexts p.0 z }) is

  -- the context of a processor as it is handed over: no space owns it, no context runs there, or one does
  module _ (f : Calls U C) (p : ProcNo) (m : Machine U C) where
    pub stopped-away : owner_of m.kernel p ≡ None → None ≡ stopped_in f m p (owner_of m.kernel p)
    stopped-away owner = sym (ap (λ (o : Option SpaceNo). stopped_in f m p o) owner)

    pub stopped-none : (s : SpaceNo) → owner_of m.kernel p ≡ Some s → context_on m p ≡ None → None ≡ stopped_in f m p (owner_of m.kernel p)
    stopped-none s owner ctx =
        sym (ap (λ (o : Option SpaceNo). stopped_in f m p o) owner ∙ ap (λ (c : Option C). stopped_by f (user_of m s) c) ctx ∙ nothing (user_of m s))
      where
        nothing : (u : Option U) → stopped_by f u None ≡ None
        nothing None = refl
        nothing (Some u) = refl

    pub stopped-some : (s : SpaceNo) (u : U) (c : C) (held : Stopped C) → owner_of m.kernel p ≡ Some s → user_of m s ≡ Some u → context_on m p ≡ Some c
        → held ≡ stopped_of f u c → Some held ≡ stopped_in f m p (owner_of m.kernel p)
    stopped-some s u c held owner user ctx is =
        ap (λ (z : Stopped C). Some z) is ∙ sym (ap (λ (o : Option SpaceNo). stopped_in f m p o) owner ∙ the-held user ctx)
      where
        the-held : user_of m s ≡ Some u → context_on m p ≡ Some c → stopped_by f (user_of m s) (context_on m p) ≡ Some (stopped_of f u c)
        the-held a b = rw (a, b) refl

module _ {U C : Type 0} (f : Calls U C) (stands : Standing U C) (keep : Keeps f stands) where
  -- the user level and the context of a processor that a space owns
  module _ (e : ℕ) (m : Machine U C) (p : ProcNo) (s : SpaceNo) (st : Stands stands e m) (owner : owner_of m.kernel p ≡ Some s) where
    pub the-user : (u : U) × (user_of m s ≡ Some u)
    the-user = let here = at-owned f stands keep e m p s st owner in (here.user, here.is_user)

    pub has-place : p.0 < length m.contexts
    has-place = let here = at-owned f stands keep e m p s st owner in omega (arith, here.within, st.lives, st.contexts)

    pub has-life : p.0 < length m.kernel.lives
    has-life = (at-owned f stands keep e m p s st owner).within

    pub has-owner : IsSome (owner_of m.kernel p)
    has-owner = subst IsSome (sym owner) refl

    pub has-space : s.0 < length m.users
    has-space = let below = st.sound.formed.owners p.0 s owner in omega (arith, below, st.demands, st.users)

    pub has-ctx : (i : ℕ) (x : Option C) → i ≡ p.0 → x ≡ get_or m.contexts i x → x ≡ None → ⊥
    has-ctx i x here read is =
        let none : context_on m p ≡ None = read-none m.contexts p.0 i x here read is in
        let some = (at-owned f stands keep e m p s st owner).is_ctx in
        cc

    module _ (u : U) (c : C) (user : user_of m s ≡ Some u) (ctx : context_on m p ≡ Some c) where
      here-as : (P : U → C → Type 0) → ((here : IsAt f stands keep m p s) → P here.user here.ctx) → P u c
      here-as P each =
          let here = at-owned f stands keep e m p s st owner in
          let a : here.user ≡ u = same_Some here.user u (sym here.is_user ∙ user) in
          let b : here.ctx ≡ c = same_Some here.ctx c (sym here.is_ctx ∙ ctx) in
          subst (λ v. P v c) a (subst (λ d. P here.user d) b (each here))

      pub of-here : IsOf stands u c
      of-here = here-as (λ v d. IsOf stands v d) (λ here. is-of f stands keep e m p s st here)

      pub seen-here : (seen : Seen) → seen ≡ seen_on m p s → IsSeenOf stands u seen c
      seen-here seen is = here-as (λ v d. IsSeenOf stands v seen d) (λ here. is-seen_of f stands keep e m p s seen st here (ap (λ (z : Seen). z.proc) is))

      pub step-here : (seen : Seen) → seen ≡ seen_on m p s → e < m.event → m.event ≤ MAX_EVENTS → IsStep stands u seen c
      step-here seen is later few =
          let at = ap (λ (z : Seen). z.event) is in
          here-as (λ v d. IsStep stands v seen d)
          (λ here. is-step f stands keep e m p s seen st here (ap (λ (z : Seen). z.proc) is) (omega (arith, at, later)) (omega (arith, at, few)))

      pub few-here : e < m.event → m.event ≤ MAX_EVENTS → (seen : Seen) → seen ≡ seen_on m p s → length (f.stepped u seen c).says ≤ 4
      few-here later few seen is =
          here-as (λ v d. length (f.stepped v seen d).says ≤ 4)
          (λ here. subst (λ (z : Seen). length (f.stepped here.user z here.ctx).says ≤ 4) (sym is) (step-law f stands keep e m p s st here later few).few)

      pub telling-here : (note : Note) (notes : List Note) (held : Option (Stopped C)) → m.kernel.telling ≡ note ∷ notes → AreClaimed m.kernel s.0
          → held ≡ held_for m.kernel note
          → IsTelling stands u c note held
      telling-here note notes held telling claimed is =
          here-as (λ v d. IsTelling stands v d note held) (λ here. record {
            setting = setting m.workload s.0 here.def;
            event = e;
            others = _;
            act = here.act.0;
            value = value-at f stands keep e m p s st here;
            mine = mine f stands keep e m p s st here;
            handed = rw is (handed-next f stands keep e m p s note notes st here telling claimed);
          })

      pub local-here : local_on f m p ≡ f.local u c
      local-here = here-as (λ v d. local_on f m p ≡ f.local v d) (λ here. local-is f stands keep m p s here)

      pub going-here : (seen : Seen) (n : ℕ) → seen ≡ seen_on m p s → e < m.event → 1 ≤ n → m.event + n ≤ MAX_EVENTS + 1 → CanGo f m p n
          → IsGoing f stands u seen c n
      going-here seen n is later some within can =
          let at = ap (λ (z : Seen). z.event) is in
          let t : can.space ≡ s = same_Some can.space s (sym can.owner ∙ owner) in
          let is_def : slice_get m.workload.spaces s.0 ≡ Some can.def = ap (λ (z : SpaceNo). slice_get m.workload.spaces z.0) (sym t) ∙ can.is_def in
          let goes : StaysLocal (setting m.workload s.0 can.def) n (local_on f m p) =
          subst (λ (z : SpaceNo). StaysLocal (setting m.workload z.0 can.def) n (local_on f m p)) t can.goes in
          here-as (λ v d. IsGoing f stands v seen d n)
          (λ here. is-going f stands keep e n m p s seen st here (ap (λ (z : Seen). z.proc) is) (omega (arith, at, later)) some (omega (arith, at, within))
          (subst (λ (z : SpaceView). StaysLocal (setting m.workload s.0 z) n (f.local here.user here.ctx)) (same_Some can.def here.def (sym is_def ∙ here.is_def))
          (subst (λ (z : SeatState). StaysLocal (setting m.workload s.0 can.def) n z) (local-is f stands keep m p s here) goes)))

  -- a notice was told
  pub told-as : (p : ProcNo) (s : SpaceNo) (note : Note) (notes : List Note) (held : Option (Stopped C)) (m : Machine U C) (k : KernelState C) (u : U)
      (c d : C) (us : List U) (cs : List (Option C))
      → user_of m s ≡ Some u → context_on m p ≡ Some c → m.kernel.telling ≡ note ∷ notes → held ≡ held_for m.kernel note
      → k ≡ after_fetch m.kernel.telling m.kernel
      → us ≡ slice_set m.users s.0 (f.told u c note held).0 → cs ≡ slice_set m.contexts p.0 (Some d) → d ≡ (f.told u c note held).1
      → record m { kernel = k; users = us; contexts = cs } ≡ told_one f p s note notes m
  told-as p s note notes held m k u c d us cs user ctx telling is_held is_k is_us is_cs is_d =
      let j : KernelState C = record m.kernel { telling = notes } in
      let next : k ≡ fetched note j = is_k ∙ ap (λ ns. after_fetch ns m.kernel) telling in
      let h : held ≡ held_for j note = is_held ∙ sym (held-same m.kernel notes note) in
      ap (λ z. record m { kernel = z; users = us; contexts = cs }) next
      ∙ called-as (λ v w. f.told v w note held) p s (record m { kernel = fetched note j }) u c d us cs user ctx is_us is_cs is_d
      ∙ ap (λ z. told f p s note z (record m { kernel = fetched note j })) h

  -- one more notice is told, if one is left
  pub record ToldOne (p : ProcNo) (s : SpaceNo) (m n : Machine U C) (more : Bool) : Type 0 where
    pub standing : Stands stands n.event n
    pub owner : owner_of n.kernel p ≡ Some s
    pub claimed : AreClaimed n.kernel s.0
    pub rest : told_all f p s n.kernel.telling n ≡ told_all f p s m.kernel.telling m
    pub done : more ≡ false → n.kernel.telling ≡ []
    pub less : length n.kernel.telling + cond more 1 0 < length m.kernel.telling + 1

  pub told-one : (p : ProcNo) (s : SpaceNo) (m n : Machine U C) (more : Bool) → Stands stands m.event m → owner_of m.kernel p ≡ Some s → AreClaimed m.kernel s.0
      → (m.kernel.telling ≡ [] → (more ≡ false) × (n ≡ m))
      → ((note : Note) (notes : List Note) → m.kernel.telling ≡ note ∷ notes → (more ≡ true) × (n ≡ told_one f p s note notes m))
      → ToldOne p s m n more
  told-one p s m n more st owner claimed none some = go m.kernel.telling refl
    where
      go : (ns : List Note) → m.kernel.telling ≡ ns → ToldOne p s m n more
      go [] is =
          let h = none is in
          subst (λ (z : Machine U C). ToldOne p s m z more) (sym h.1) (record {
            standing = st;
            owner = owner;
            claimed = claimed;
            rest = refl;
            done = λ e. is;
            less = rw (h.0, is) (omega arith);
          })
      go (note ∷ notes) is =
          let h = some note notes is in
          let t = tells-next f stands keep m.workload m.event m.event m p s note notes (record {
            workload = refl;
            event = refl;
            standing = st;
            claimed = claimed;
            owner = owner;
            telling = is;
          }) in
          let after = told_one f p s note notes m in
          let len : length after.kernel.telling ≡ length notes = ap (λ ns. length ns) t.telling in
          let was : length m.kernel.telling ≡ length (note ∷ notes) = ap (λ ns. length ns) is in
          subst (λ (z : Machine U C). ToldOne p s m z more) (sym h.1) (record {
            standing = subst (λ i. Stands stands i after) (sym t.event) t.standing;
            owner = t.owner;
            claimed = t.claimed;
            rest = ap (λ ns. told_all f p s ns after) t.telling ∙ sym (ap (λ ns. told_all f p s ns m) is);
            done = λ e. absurd (let z = sym h.0 ∙ e in cc);
            less = rw h.0 (omega (arith, len, was));
          })

  pub told-cons : (p : ProcNo) (s : SpaceNo) (m : Machine U C) (note x : Note) (notes xs : List Note) → note ∷ notes ≡ x ∷ xs
      → told_one f p s note notes m ≡ told_one f p s x xs m
  told-cons p s m note x notes xs same =
      let a : note ≡ x = ap (λ ns. get_or ns 0 note) same in
      let b : notes ≡ xs = ap (λ ns. drop 1 ns) same in
      ap (λ n. told_one f p s n notes m) a ∙ ap (λ ns. told_one f p s x ns m) b
