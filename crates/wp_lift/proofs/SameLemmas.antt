-- Lists of numbers and ground atoms that are the same, and lists of atoms as sets.
use Rattle.std.proofs.Common.{◌≡◌, ℕ, ◌==◌, ◌&&◌, ◌||◌, Bool, true, false, cond, List, [], ◌∷◌, ◌++◌, fold, refl, sym, ◌∙◌, ap, Decides}
use Rattle.std.proofs.lemmas.Slice.Eq.{slice_eq-Decides}
use Rattle.std.proofs.lemmas.Bool.Decides.{Decides-eqb, same_from_decides}
use Rattle.wp_lift.specs.declared.atoms.GroundAtom.{GroundAtom}
use Rattle.wp_lift.specs.Worlds.{among, is_same_args, is_same_atom, noted}

pub same-args : (a b : List ℕ) → Decides (is_same_args a b) (a ≡ b)
same-args a b = slice_eq-Decides Decides-eqb a b (is_same_args a b) refl

turned : {X : Type 0} (a b : X) (r : Bool) → Decides r (a ≡ b) → Decides r (b ≡ a)
turned a b r d = (λ e. sym (d.0 e), λ e. d.1 (sym e))

pub same-args-sym : (a b : List ℕ) → is_same_args a b ≡ is_same_args b a
same-args-sym a b = same_from_decides _ (is_same_args b a) (same-args a b) (turned b a _ (same-args b a))

both : (p q : Bool) → (p && q) ≡ true → (p ≡ true) × (q ≡ true)
both true q h = (refl, h)
both false q h = cc

pub same-atom : (a b : GroundAtom) → is_same_atom a b ≡ true → a ≡ b
same-atom a b h =
    let parts = both (a.pred == b.pred) (is_same_args a.args b.args) h in
    let pred : a.pred ≡ b.pred = (Decides-eqb a.pred b.pred).0 parts.0 in
    let args : a.args ≡ b.args = (same-args a.args b.args).0 parts.1 in
    λ i. record { pred = pred i; args = args i }

pub same-atom-sym : (a b : GroundAtom) → is_same_atom a b ≡ is_same_atom b a
same-atom-sym a b =
    let pred : (a.pred == b.pred) ≡ (b.pred == a.pred) = same_from_decides _ (b.pred == a.pred) (Decides-eqb a.pred b.pred) (turned b.pred a.pred _ (Decides-eqb b.pred a.pred)) in
    let args = same-args-sym a.args b.args in
    cc

or_false : (b : Bool) → (b || false) ≡ b
or_false true = refl
or_false false = refl

or_or : (a b c : Bool) → ((a || b) || c) ≡ (a || (b || c))
or_or true b c = refl
or_or false b c = refl

among-push : (atoms : List GroundAtom) (a other : GroundAtom) → among (atoms ++ a ∷ []) other ≡ (among atoms other || is_same_atom other a)
among-push [] a other = or_false (is_same_atom other a)
among-push (x ∷ atoms) a other =
    ap (λ b. is_same_atom other x || b) (among-push atoms a other) ∙ sym (or_or (is_same_atom other x) (among atoms other) (is_same_atom other a))

there : (atoms : List GroundAtom) (a other : GroundAtom) (t : Bool) → is_same_atom other a ≡ t → among atoms a ≡ true → among atoms other ≡ (among atoms other || t)
there atoms a other true e h = let same = ap (among atoms) (same-atom other a e) ∙ h in same ∙ ap (λ b. b || true) (sym same)
there atoms a other false e h = sym (or_false (among atoms other))

by_case : (atoms : List GroundAtom) (a other : GroundAtom) (t : Bool) → among atoms a ≡ t
    → among (cond t atoms (atoms ++ a ∷ [])) other ≡ (among atoms other || is_same_atom other a)
by_case atoms a other true e = there atoms a other (is_same_atom other a) refl e
by_case atoms a other false e = among-push atoms a other

pub among-noted : (atoms : List GroundAtom) (a other : GroundAtom) → among (noted atoms a) other ≡ (among atoms other || is_same_atom other a)
among-noted atoms a other = by_case atoms a other (among atoms a) refl

pub among-noted_all : (atoms news : List GroundAtom) (other : GroundAtom) → among (fold noted atoms news) other ≡ (among atoms other || among news other)
among-noted_all atoms [] other = sym (or_false (among atoms other))
among-noted_all atoms (a ∷ news) other =
    among-noted_all (noted atoms a) news other
    ∙ ap (λ b. b || among news other) (among-noted atoms a other)
    ∙ or_or (among atoms other) (is_same_atom other a) (among news other)
