-- What is written of a graph.
use Rattle.std.specs.Prelude.{◌≡◌, ◌+◌, ◌++◌, ℕ, suc, List, [], Option, Some, length, slice_get}
use Rattle.std.specs.Io.KnownBytes.{Appends}
use Rattle.std.proofs.Common.{refl, ap, sym, ◌∙◌, subst}
use Rattle.std.proofs.KnownBytes.{Appends-nil, Appends-trans}
use Rattle.mcs_book.specs.Boots.{Boot}
use Rattle.mcs_turns.specs.Turns.{User}
use Rattle.mcs_explore_search.specs.declared.search.Edge.{Edge}
use Rattle.mcs_explore_search.specs.Search.{Entries}
use Rattle.mcs_explore_search.proofs.Places.{one-up, some-same}
use Rattle.mcs_explore_walk.specs.declared.walk.Turn.{Turn}
use Rattle.mcs_explore_graph.specs.declared.lines.Form.{Form}
use Rattle.mcs_explore_graph.specs.Graphs.{AreLines, IsGraphText, IsLine, Wrote, end_text, head_text}

-- nothing was written yet
pub wrote-nothing : {W : Type 0} (contents : W → Option (List ℕ)) (w : W) (Is : List ℕ → Type 0) → Is [] → Wrote contents w w Is
wrote-nothing contents w Is is = ([], (is, Appends-nil (contents w)))

-- the lines of some edges, and that of the next
pub lines-more : {K W : Type 0} (contents : W → Option (List ℕ)) (old mid new : W) (form : Form) (users : List User) (boot : Boot) (E : Entries K Turn) (edges : List (Edge Turn)) (n : ℕ) (e : Edge Turn) (line : List ℕ)
    → Wrote contents old mid (AreLines form users boot E edges n) → slice_get edges n ≡ Some e → IsLine form users boot E e line → Appends (contents mid) (contents new) line → Wrote contents old new (AreLines form users boot E edges (n + 1))
lines-more contents old mid new form users boot E edges n e line w at is more =
    (w.0 ++ line, (subst (λ (m : ℕ). AreLines form users boot E edges m (w.0 ++ line)) (sym (one-up n)) grown, Appends-trans (contents old) (contents mid) (contents new) w.0 line w.1.1 more))
  where
    each : (x : Edge Turn) → slice_get edges n ≡ Some x → IsLine form users boot E x line
    each x there = subst (λ (y : Edge Turn). IsLine form users boot E y line) (some-same e x (sym at ∙ there)) is

    grown : AreLines form users boot E edges (suc n) (w.0 ++ line)
    grown = (w.0, (line, (w.1.0, (each, refl))))

-- a first line, the lines of all edges, and a last line
pub graph-written : {K W : Type 0} (contents : W → Option (List ℕ)) (a b c d : W) (form : Form) (users : List User) (boot : Boot) (E : Entries K Turn) (edges : List (Edge Turn)) (states turns : ℕ) (head end : List ℕ)
    → states ≡ length E → turns ≡ length edges → head ≡ head_text form states turns → end ≡ end_text form
    → Appends (contents a) (contents b) head → Wrote contents b c (AreLines form users boot E edges (length edges)) → Appends (contents c) (contents d) end → Wrote contents a d (IsGraphText form users boot E edges)
graph-written contents a b c d form users boot E edges states turns head end is_states is_turns is_head is_end begun w ended =
    ((head ++ w.0) ++ end, (record { lines = w.0; are = w.1.0; whole = whole }, Appends-trans (contents a) (contents c) (contents d) (head ++ w.0) end (Appends-trans (contents a) (contents b) (contents c) head w.0 begun w.1.1) ended))
  where
    first : head ≡ head_text form (length E) (length edges)
    first = is_head ∙ ap (λ (n : ℕ). head_text form n turns) is_states ∙ ap (λ (n : ℕ). head_text form (length E) n) is_turns

    whole : (head ++ w.0) ++ end ≡ head_text form (length E) (length edges) ++ w.0 ++ end_text form
    whole = ap (λ (h : List ℕ). h ++ w.0 ++ end) first ∙ ap (λ (x : List ℕ). head_text form (length E) (length edges) ++ w.0 ++ x) is_end
