-- Sets of ground atoms as tests, and lists that list them.
use Rattle.std.proofs.Common.{◌≡◌, ℕ, ◌==◌, Bool, true, false, List, [], ◌∷◌, refl, sym, ap, subst, inl, inr, ⊎_elim}
use Rattle.std.specs.List.{flat_map}
use Rattle.std.proofs.lemmas.Bool.{and_from}
use Rattle.std.proofs.lemmas.Bool.Decides.{Decides-eqb}
use Rattle.wp_task.proofs.Members.{In, list_any-from, list_any-at, list_all-from, list_all-at, In-append_left, In-append_right, In-append_cases}
use Rattle.wp_lift.specs.declared.atoms.GroundAtom.{GroundAtom}
use Rattle.wp_lift.specs.declared.schemas.SlotCond.{SlotCond}
use Rattle.wp_lift.specs.declared.schemas.SlotCond.TheVariants.{Atom, Same, Differ}
use Rattle.wp_lift.specs.Problem.{Lifting, Instance, schema_at}
use Rattle.wp_lift.specs.Worlds.{is_same_args, is_same_atom, among, grounded, holds, all_hold}
use Rattle.wp_lift.proofs.SameLemmas.{same-args, same-atom}

pub In-flat_map : {X Y : Type 0} (f : X → List Y) (xs : List X) (x : X) (y : Y) → In x xs → In y (f x) → In y (flat_map f xs)
In-flat_map f [] x y there made = absurd there
In-flat_map {Y = Y} f (z ∷ zs) x y there made = ⊎_elim
    (λ (same : x ≡ z). In-append_left (f z) (flat_map f zs) y (subst (λ (l : List Y). In y l) (ap f same) made))
    (λ (later : In x zs). In-append_right (f z) (flat_map f zs) y (In-flat_map f zs x y later made))
    there

pub In-flat_map_cases : {X Y : Type 0} (f : X → List Y) (xs : List X) (y : Y) → In y (flat_map f xs) → (x : X) × In x xs × In y (f x)
In-flat_map_cases f [] y h = absurd h
In-flat_map_cases {X = X} f (z ∷ zs) y h = ⊎_elim
    (λ (here : In y (f z)). let found : (x : X) × In x (z ∷ zs) × In y (f x) = (z, inl refl, here) in found)
    (λ (later : In y (flat_map f zs)).
    let rest : (x : X) × In x zs × In y (f x) = In-flat_map_cases f zs y later in
    let found : (x : X) × In x (z ∷ zs) × In y (f x) = (rest.0, inr rest.1, rest.2) in found)
    (In-append_cases (f z) (flat_map f zs) y h)

pub same_atom-self : (a : GroundAtom) → is_same_atom a a ≡ true
same_atom-self a = and_from (a.pred == a.pred) (is_same_args a.args a.args) ((Decides-eqb a.pred a.pred).1 refl) ((same-args a.args a.args).1 refl)

pub among-from : (atoms : List GroundAtom) (a : GroundAtom) → In a atoms → among atoms a ≡ true
among-from atoms a h = list_any-from (is_same_atom a) atoms a h (same_atom-self a)

pub among-in : (atoms : List GroundAtom) (a : GroundAtom) → among atoms a ≡ true → In a atoms
among-in atoms a h =
    let found = list_any-at (is_same_atom a) atoms h in
    subst (λ (b : GroundAtom). In b atoms) (sym (same-atom a found.0 found.2)) found.1

-- each atom of the one set is in the other
pub record Within (s t : GroundAtom → Bool) : Type 0 where
  pub each : (a : GroundAtom) → s a ≡ true → t a ≡ true

pub within-both : (s t : GroundAtom → Bool) → Within s t → Within t s → s ≡ t
within-both s t more less = λ i a. same (s a) (t a) (more.each a) (less.each a) i
  where
    same : (p q : Bool) → (p ≡ true → q ≡ true) → (q ≡ true → p ≡ true) → p ≡ q
    same true q f g = sym (f refl)
    same false true f g = g refl
    same false false f g = refl

-- conditions that hold in a set hold in each larger one: what is needed is never that an atom is false
pub holds-more : (args : List ℕ) (s t : GroundAtom → Bool) → Within s t → (cond : SlotCond) → holds args s cond ≡ true → holds args t cond ≡ true
holds-more args s t more (Atom atom) h = more.each (grounded args atom) h
holds-more args s t more (Same a b) h = h
holds-more args s t more (Differ a b) h = h

pub all_hold-more : (lifted : Lifting) (step : Instance) (s t : GroundAtom → Bool) → Within s t → all_hold lifted step s ≡ true → all_hold lifted step t ≡ true
all_hold-more lifted step s t more h =
    let conds = (schema_at lifted step.schema).conds in
    list_all-from (holds step.args t) conds (λ (cond : SlotCond) there.
    holds-more step.args s t more cond (list_all-at (holds step.args s) conds h cond there))
