-- What a turn asks, and what a reply is in a session.
use Rattle.std.proofs.Common.{◌≡◌, ap, refl, ◌∙◌, ℕ, ◌+◌, Option, Some, None}
use Rattle.std.specs.Option.{option_map}
use Rattle.std.proofs.lemmas.Option.{none-some}
use Rattle.sa_base.specs.declared.number.ProcNo.{ProcNo}
use Rattle.sa_base.specs.declared.number.SpaceNo.{SpaceNo}
use Rattle.sa_base.specs.declared.number.ActNo.{ActNo}
use Rattle.sa_base.specs.declared.number.IoNo.{IoNo}
use Rattle.sa_abstract.specs.Calls.{Calls}
use Rattle.sa_abstract.specs.Keeps.{Standing}
use Rattle.sa_devices.specs.Ios.{due_of, io_no}
use Rattle.sa_kernel_model.specs.State.{owner_of, line_of}
use Rattle.sa_core_model.specs.Machine.{Machine, user_of, stepped}
use Rattle.sa_core_model.specs.Turn.{next_event, asked, turned, turned_raised, turned_due, turned_owned}
use Rattle.sa_asked.specs.Replies.{Replies, KeepsReplies}
use Rattle.sa_asked.specs.Questions.{steps_by, steps_in, put_by, put_reply}
use Rattle.sa_session_runs.specs.Sessions.{IsPut}

module _ {U C : Type 0} (f : Calls U C) (p : ProcNo) (fresh : ActNo) (s : SpaceNo) where
  steps-if : (m : Machine U C) (line : Option ℕ) (due : Option IoNo) (owner : Option SpaceNo) → line_of m.kernel p ≡ line
      → option_map io_no (due_of m.event m.kernel.under_way) ≡ due → owner_of m.kernel p ≡ owner → steps_by line due owner ≡ Some s
      → turned_raised f p fresh line m ≡ asked f p fresh (stepped f p s m).1 (stepped f p s m).0
  steps-if m None None owner low none owned is =
      ap (λ (o : Option IoNo). turned_due f p fresh o m) none ∙ ap (λ (o : Option SpaceNo). turned_owned f p fresh o m) (owned ∙ is)
  steps-if m None (Some io) owner low none owned is = absurd (none-some s is)
  steps-if m (Some e) due owner low none owned is = absurd (none-some s is)

  -- A TURN IS A STEP of the space that is asked, after its event has begun.
  pub asked-steps : (m : Machine U C) → steps_in m p ≡ Some s
      → turned f p fresh m ≡ asked f p fresh (stepped f p s (next_event m)).1 (stepped f p s (next_event m)).0
  asked-steps m is =
      let x : Machine U C = next_event m in
      steps-if x (line_of m.kernel p) (option_map io_no (due_of (m.event + 1) m.kernel.under_way)) (owner_of m.kernel p) refl refl refl is

module _ {U C R : Type 0} (f : Calls U C) (stands : Standing U C) (replies : Replies U C R) (alike : U → U → Type 0)
    (keep : KeepsReplies f stands replies alike) where
  -- A REPLY that is put is a move of a session.
  pub reply-is-put : (m : Machine U C) (s : SpaceNo) (reply : R) (u : U) → user_of m s ≡ Some u
      → IsPut alike s (replies.put u reply) m (put_reply replies s reply m)
  reply-is-put m s reply u is = record {
    before = u;
    is_before = is;
    is_alike = keep.puts u reply;
    is = ap (λ (o : Option U). put_by replies s reply o m) is;
  }
