-- What the step of a turn can do, and a reply that is put.
use Rattle.std.proofs.Common.{◌≡◌, ℕ, ◌+◌, ◌<◌, length, Bool, Option, Some, None, List, slice_get, slice_set, refl, sym, ap, subst, ◌∙◌}
use Rattle.std.specs.Option.{option_map}
use Rattle.std.proofs.lemmas.List.{length-set}
use Rattle.std.proofs.lemmas.Option.{none-some}
use Rattle.sa_base.specs.declared.number.ProcNo.{ProcNo}
use Rattle.sa_base.specs.declared.number.SpaceNo.{SpaceNo}
use Rattle.sa_base.specs.declared.number.IoNo.{IoNo}
use Rattle.sa_base.specs.declared.context.Seen.{Seen}
use Rattle.sa_lemmas.proofs.ListReads.{read-at}
use Rattle.sa_abstract.specs.Calls.{Calls}
use Rattle.sa_abstract.specs.Keeps.{Standing, Keeps}
use Rattle.sa_devices.specs.Ios.{due_of, io_no}
use Rattle.sa_kernel_model.specs.State.{owner_of, line_of}
use Rattle.sa_kernel_model.specs.Seen.{seen_of}
use Rattle.sa_core_model.specs.Machine.{Machine, user_of, context_on, seen_on}
use Rattle.sa_core_model.specs.Turn.{next_event}
use Rattle.sa_core_model.specs.Run.{setting}
use Rattle.sa_core_model.specs.Standing.{contexts_of, IsBetween}
use Rattle.sa_core_model.proofs.Phases.{at-owned, values-put}
use Rattle.sa_machine.specs.declared.machine.MachineParts.{MachineParts}
use Rattle.sa_machine.specs.View.{machine_of}
use Rattle.sa_asked.specs.Replies.{Replies, KeepsReplies}
use Rattle.sa_asked.specs.Questions.{steps_by, steps_in, with_user, can_in, can_by, can_reply, put_by, put_reply}
use Rattle.sa_core.specs.Room.{IsKept}

-- a step is one of the space that owns the processor
owns-by : (line : Option ℕ) (due : Option IoNo) (owner : Option SpaceNo) (s : SpaceNo) → steps_by line due owner ≡ Some s → owner ≡ Some s
owns-by None None owner s is = is
owns-by None (Some io) owner s is = absurd (none-some s is)
owns-by (Some e) due owner s is = absurd (none-some s is)

module _ {U C R : Type 0} (f : Calls U C) (stands : Standing U C) (keep : Keeps f stands) (replies : Replies U C R) (alike : U → U → Type 0)
    (law : KeepsReplies f stands replies alike) where
  -- what is seen now decides as what is seen in the turn, whose pages may be fewer
  pub can-here : (m : Machine U C) (p : ProcNo) (s : SpaceNo) (c : C) (seen : Seen) (reply : R) (result : Bool) → IsBetween stands m
      → steps_in m p ≡ Some s → context_on m p ≡ Some c
      → (owner_of m.kernel p ≡ Some s → seen ≡ seen_of m.kernel p s (m.event + 1))
      → ((u : U) → user_of m s ≡ Some u → result ≡ replies.can u seen c reply) → result ≡ can_reply replies m p reply
  can-here m p s c seen reply result between steps ctx sees is =
      let owner : owner_of m.kernel p ≡ Some s =
      owns-by (line_of m.kernel p) (option_map io_no (due_of (m.event + 1) m.kernel.under_way)) (owner_of m.kernel p) s steps in
      let here = at-owned f stands keep m.event m p s between.standing owner in
      let u : U = here.user in
      let turn : Seen = seen_on (next_event m) p s in
      let the_turn : can_reply replies m p reply ≡ replies.can u turn c reply =
      ap (λ (o : Option SpaceNo). can_in replies m p o reply) steps
      ∙ ap (λ (o : Option U). can_by replies turn o (context_on m p) reply) here.is_user
      ∙ ap (λ (o : Option C). can_by replies turn (Some u) o reply) ctx in
      is u here.is_user
      ∙ ap (λ (v : Seen). replies.can u v c reply) (sees owner)
      ∙ sym (law.pages u (seen_of m.kernel p s (m.event + 1)) c reply turn.pages)
      ∙ sym the_turn

  -- what stands does so after a reply
  pub between-put : (m : Machine U C) (s : SpaceNo) (reply : R) (u : U) → user_of m s ≡ Some u → IsBetween stands m
      → IsBetween stands (with_user s (replies.put u reply) m)
  between-put m s reply u at between =
      let st = between.standing in
      let v : U = replies.put u reply in record {
        standing = record {
          workload = st.workload;
          sound = st.sound;
          lives = st.lives;
          contexts = st.contexts;
          demands = st.demands;
          users = length-set m.users s.0 v ∙ st.users;
          there = st.there;
          values = values-put stands m.workload m.event m.users s.0 v (contexts_of m) (contexts_of m)
              (λ def of. law.stands_alike (setting m.workload s.0 def) m.event u v (contexts_of m s.0) (law.puts u reply) (st.values s.0 u def at of))
              (λ t apart b. refl) st.values;
        };
        fetched = between.fetched;
      }

  pub put-is : (m : Machine U C) (s : SpaceNo) (reply : R) (u : U) → user_of m s ≡ Some u → put_reply replies s reply m ≡ with_user s (replies.put u reply) m
  put-is m s reply u at = ap (λ (o : Option U). put_by replies s reply o m) at

  module _ (m : MachineParts U C) (s : SpaceNo) (reply : R) (users : List U) (within : s.0 < length m.users)
      (is : (u : U) → slice_get m.users s.0 ≡ Some u → users ≡ slice_set m.users s.0 (replies.put u reply)) where
    -- the machine after a reply was put
    pub machine-put : machine_of (record m { users = users }) ≡ put_reply replies s reply (machine_of m)
    machine-put =
        let u = read-at m.users s.0 within in
        ap (λ (us : List U). record (machine_of m) { users = us }) (is u.0 u.1) ∙ sym (put-is (machine_of m) s reply u.0 u.1)

    pub kept-put : (budget spare : ℕ) → IsKept stands m budget spare → IsKept stands (record m { users = users }) budget spare
    kept-put budget spare kept =
        let u = read-at m.users s.0 within in
        record {
          between = subst (λ (us : List U). IsBetween stands (record (machine_of m) { users = us })) (sym (is u.0 u.1))
              (between-put (machine_of m) s reply u.0 u.1 kept.between);
          entered = kept.entered;
          within = kept.within;
          few = kept.few;
          room = record { entries = kept.room.entries; items = kept.room.items };
        }
