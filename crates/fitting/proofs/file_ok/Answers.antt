-- Each return is one part of the test of a file and of what is kept for it; proofs/Files.antt shows what the parts come to.
-- Assumes nothing.
use Rattle.std.proofs.Common.{sym, ◌∙◌}
use borrow.Author.Tests.{not-true, not-false}
use Rattle.fitting.proofs.Files.{free-test, unlinked-test, root-test, child-test}
use Rattle.fitting.proofs.file_ok.Goals as goal

pub returns-then-kind-eq-FREE : goal.returns-then-kind-eq-FREE
returns-then-kind-eq-FREE c =
    let kind = c.file_word-kind in
    c.free_ok.ensures ∙ free-test _ _ (sym kind.ensures ∙ c.if-kind-eq-FREE.true)

pub returns-then-not-linked : goal.returns-then-not-linked
returns-then-not-linked c =
    let kind = c.file_word-kind in
    sym (unlinked-test _ _ (λ e. c.if-kind-eq-FREE.false (kind.ensures ∙ e))
    (rw (← kind.ensures, ← c.file_word-parent.ensures, ← c.file_word.ensures, ← c.link_ok.ensures) (not-true _ c.if-not-linked.true-raw)))

pub returns-then-o-eq-ROOT : goal.returns-then-o-eq-ROOT
returns-then-o-eq-ROOT c =
    let kind = c.file_word-kind in
    c.values_ok.ensures
    ∙ root-test _ _ c.if-o-eq-ROOT.true (λ e. c.if-kind-eq-FREE.false (kind.ensures ∙ e))
    (rw (← kind.ensures, ← c.file_word-parent.ensures, ← c.file_word.ensures, ← c.link_ok.ensures) (not-false _ c.if-not-linked.false-raw))

pub returns : goal.returns
returns c =
    let kind = c.file_word-kind in
    let parent = c.file_word-parent.ensures in
    c.values_ok-2.ensures
    ∙ simp (c.kept_at-3.ensures, c.kept_at-2.ensures, c.kept_at.ensures, parent)
    (child-test _ _ c.if-o-eq-ROOT.false (λ e. c.if-kind-eq-FREE.false (kind.ensures ∙ e))
    (rw (← kind.ensures, ← parent, ← c.file_word.ensures, ← c.link_ok.ensures) (not-false _ c.if-not-linked.false-raw)))
