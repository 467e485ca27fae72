-- The calls of a driven user level but for the step do not look at the reply.
use Rattle.std.proofs.Common.{◌≡◌, ℕ, Bool, List, refl, sym, ap, subst}
use Rattle.sa_base.specs.declared.context.Seen.{Seen}
use Rattle.sa_abstract.specs.Setting.{Setting}
use Rattle.sa_abstract.specs.Calls.{Contexts}
use Rattle.sa_asked.specs.Replies.{KeepsReplies}
use Rattle.sa_package_model.specs.declared.package.Package.{Package}
use Rattle.sa_package_model.specs.Step.{tally}
use Rattle.sa_driven_model.specs.declared.context.DrivenContext.{DrivenContext}
use Rattle.sa_driven_model.specs.declared.space.DrivenSpace.{DrivenSpace}
use Rattle.sa_driven_model.specs.declared.reply.Reply.{Reply}
use Rattle.sa_driven_model.specs.declared.reply.Reply.TheVariants.{Ins, Run, Ready, Cont, Back, Take, Free, Spin, Idle, Want, GiveBack, Line}
use Rattle.sa_driven_model.specs.Reply.{can}
use Rattle.sa_driven_model.specs.Stands.{driven_stands, IsStanding}
use Rattle.sa_driven_model.specs.Step.{driven_calls}
use Rattle.sa_driven.specs.Replies.{driven_replies, are_alike}

-- the reply is no part of what stands
stands-but : (s : Setting) (e : ℕ) (u v : DrivenSpace) (cs : Contexts DrivenContext) → v.base ≡ u.base → v.handed ≡ u.handed
    → IsStanding s e u cs → IsStanding s e v cs
stands-but s e u v cs base handed st =
    subst (λ (x : List Bool). IsStanding s e (record v { handed = x }) cs) (sym handed)
    (subst (λ (b : Package). IsStanding s e (record v { base = b; handed = u.handed }) cs) (sym base) (record {
      made = st.made;
      parts = st.parts;
      unused = st.unused;
      places = st.places;
      somewhere = st.somewhere;
      carries = st.carries;
      locks = st.locks;
      within = st.within;
      handed = st.handed;
      hands = st.hands;
    }))

-- no page decides whether a reply can be done
no-page : (u : DrivenSpace) (seen : Seen) (c : DrivenContext) (reply : Reply) (pages : ℕ)
    → can u (record seen { pages = pages }) c reply ≡ can u seen c reply
no-page u seen c Ins pages = refl
no-page u seen c (Run t) pages = refl
no-page u seen c (Ready t) pages = refl
no-page u seen c (Cont t) pages = refl
no-page u seen c Back pages = refl
no-page u seen c (Take l) pages = refl
no-page u seen c (Free l) pages = refl
no-page u seen c (Spin l) pages = refl
no-page u seen c Idle pages = refl
no-page u seen c (Want n) pages = refl
no-page u seen c GiveBack pages = refl
no-page u seen c (Line q) pages = refl

pub driven_keeps_replies : KeepsReplies driven_calls driven_stands driven_replies are_alike
driven_keeps_replies = record {
  puts = λ u reply. refl;
  stands_alike = λ s e u v cs same st. stands-but s e u v cs (ap (λ (x : DrivenSpace). x.base) same) (ap (λ (x : DrivenSpace). x.handed) same) st;
  tallies = λ u v same. ap (λ (x : DrivenSpace). tally x.base) same;
  pages = no-page;
}
