-- A page is put together piece by piece, and is one text.
use Rattle.std.proofs.Common.{◌≡◌, ℕ, List, [], ◌++◌, sym, ap, ◌∙◌, subst}
use Rattle.sa_spaces.specs.Workload.{WorkloadView}
use Rattle.sa_trace.specs.Reading.{Told}
use Rattle.sa_laws.specs.Event.{events_of}
use Rattle.sa_base.specs.declared.package.RulesName.{RulesName}
use Rattle.sa_ranks.specs.Packages.{rules_named}
use Rattle.sa_check.specs.declared.verdict.Verdict.{Verdict}
use Rattle.sa_check.specs.Verdict.{IsVerdict, last_line}
use Rattle.sa_workload.specs.Text.{text_of as workload_text}
use Rattle.sa_check.proofs.VerdictLemmas.{one-verdict}
use Rattle.sa_cells.specs.Change.{opening_lines}
use Rattle.sa_check_moment.specs.Seen.{opened}
use Rattle.sa_page.specs.Said.{verdict_said}
use Rattle.sa_page.specs.Page.{page_text, said, IsPrinted, IsPage}
use Rattle.sa_page.proofs.ShownLemmas.{shown-one}
use Rattle.sa_page.proofs.EndedLemmas.{says-one}
use Rattle.sa_page.proofs.FailingLemmas.{failing-one}

-- a piece more
pub behind : (before after piece whole part : List ℕ) → after ≡ before ++ piece → before ≡ whole → piece ≡ part → after ≡ whole ++ part
behind before after piece whole part e w p = e ∙ ap (λ xs. xs ++ piece) w ∙ ap (λ xs. whole ++ xs) p

-- the first piece
pub begins-with : (before after piece : List ℕ) → after ≡ before ++ piece → before ≡ [] → after ≡ piece
begins-with before after piece e none = e ∙ ap (λ xs. xs ++ piece) none

-- only one text is printed of a verdict and a trace, and only one is the page
printed-one : (rules : RulesName) (w : WorkloadView) (v : Verdict) (t : Told) (a b : List ℕ) → IsPrinted rules w v t a → IsPrinted rules w v t b → a ≡ b
printed-one rules w v t a b p q =
    p.is
    ∙ ap (λ failing. page_text (verdict_said rules v) failing p.end (workload_text w) (said w t.items) (opening_lines (opened rules w)) p.shown)
    (failing-one (opened rules w) v (events_of t.items) p.failing q.failing p.fails q.fails)
    ∙ ap (λ end. page_text (verdict_said rules v) q.failing end (workload_text w) (said w t.items) (opening_lines (opened rules w)) p.shown)
    (says-one (opened rules w) t.end t.events (events_of t.items) p.end q.end p.ends q.ends)
    ∙ ap (page_text (verdict_said rules v) q.failing q.end (workload_text w) (said w t.items) (opening_lines (opened rules w)))
    (shown-one (opened rules w) [] (events_of t.items) p.shown q.shown p.shows q.shows)
    ∙ sym q.is

pub page-one : (rules : RulesName) (w : WorkloadView) (trace a b : List ℕ) → IsPage rules w trace a → IsPage rules w trace b → a ≡ b
page-one rules w trace a b p q =
    let told : p.told ≡ q.told = cc (p.read, q.read) in
    let holds : IsVerdict (rules_named rules) w q.told.items (last_line q.told) p.verdict =
    subst (λ (t : Told). IsVerdict (rules_named rules) w t.items (last_line t) p.verdict) told p.holds in
    let verdict = one-verdict (rules_named rules) w q.told.items (last_line q.told) p.verdict q.verdict holds q.holds in
    let printed : IsPrinted rules w p.verdict q.told a = subst (λ (t : Told). IsPrinted rules w p.verdict t a) told p.printed in
    printed-one rules w q.verdict q.told a b (subst (λ (v : Verdict). IsPrinted rules w v q.told a) verdict printed) q.printed
