-- Problems: they are read without a fault exactly where the grammar has them.
use Rattle.std.proofs.Common.{◌≡◌, ℕ, Bool, true, false, List, [], ◌∷◌, ◌++◌, Option, None, Some, refl, sym, ap, subst, ◌∙◌}
use Rattle.std.specs.Prelude.{codes, is_some, is_none, unwrap_or, option_to_list}
use Rattle.std.specs.Str.{bytes_eq}
use Rattle.wp_lex.specs.Trees.{Tree, Trees, Leaf, Branch, End, Then}
use Rattle.wp_syntax.specs.declared.error.ReadKind.TheVariants.{Shape, Unsupported, Duplicate}
use Rattle.wp_syntax.specs.declared.records.Name.{Name}
use Rattle.wp_syntax.specs.declared.records.Typed.{Typed}
use Rattle.wp_syntax.specs.declared.records.AtomText.{AtomText}
use Rattle.wp_syntax.specs.declared.items.InitFact.{InitFact}
use Rattle.wp_syntax.specs.declared.records.Problem.{Problem}
use Rattle.wp_syntax.specs.declared.problem.Entries.{Entries}
use Rattle.wp_syntax.specs.declared.typing.Role.TheVariants as roles
use Rattle.wp_syntax.specs.declared.word.ItemHead.{ItemHead}
use Rattle.wp_syntax.specs.declared.word.ItemHead.TheVariants as item_heads
use Rattle.wp_syntax.specs.Heads.{is_other_item, item_head_of}
use Rattle.wp_syntax.specs.Reading.{Read, fine, wrong, wrong_if, ◌>>=◌, ◌>>◌, each}
use Rattle.wp_syntax.specs.Grammar.{goal_of}
use Rattle.wp_syntax.specs.Effects.{fact_of}
use Rattle.wp_syntax.specs.Typing.{typed_of}
use Rattle.wp_syntax.specs.Outline.{outline_of, title_of, flags_of, only_name_of, end_of}
use Rattle.wp_syntax.specs.Problems.{no_entries, domain_name_of, only_goal_of, goal_entry_of, headed_entry_of, entry_of, entries_of, complete_of, problem_from, problem_of}
use Rattle.wp_syntax.specs.Phrases.{Each, IsFact}
use Rattle.wp_syntax.specs.Sentences.{Entry, OfDomain, Flags, Objects, Init, Goal, HasEntry, of_domain, of_flags, of_objects, of_init, of_goal, IsEntry, domains_in, flags_in, objects_in, inits_in, goals_in, HasOutline, defines, IsProblem}
use Rattle.wp_syntax.proofs.FaultLemmas.{append_none, none_before, none_behind, not_faulty}
use Rattle.wp_syntax.proofs.Heads.{pick, same_word}
use Rattle.wp_syntax.proofs.OnceLemmas.{once_of, kept_of, kept_is, free_of, same_of, not_there, once_new, once_read, free_place, flag, flag_free, flag_same, flag_none, flag_of}
use Rattle.wp_syntax.proofs.ConjunctionLemmas.{each_holds, each_reads}
use Rattle.wp_syntax.proofs.PhraseLemmas.{goal_holds, goal_reads, fact_holds, fact_reads}
use Rattle.wp_syntax.proofs.TypedLemmas.{list_holds, list_reads}
use Rattle.wp_syntax.proofs.OutlineLemmas.{flags_hold, flags_read, only_name_holds, only_name_reads, outline_holds, title_reads}

abbrev SaysEntry : ItemHead → List ℕ → Type 0
SaysEntry item_heads.Domain text = text ≡ codes ":domain"
SaysEntry item_heads.Requirements text = text ≡ codes ":requirements"
SaysEntry item_heads.Objects text = text ≡ codes ":objects"
SaysEntry item_heads.Init text = text ≡ codes ":init"
SaysEntry item_heads.Goal text = text ≡ codes ":goal"
SaysEntry item_heads.Unsupported text = Unit {0}
SaysEntry item_heads.Other text = Unit {0}

entry_says : (text : List ℕ) → SaysEntry (item_head_of text) text
entry_says text =
    let P : ItemHead → Type 0 = λ k. SaysEntry k text in
    pick P (bytes_eq text (codes ":domain")) item_heads.Domain _ (λ e. same_word text (codes ":domain") e)
    (λ _. pick P (bytes_eq text (codes ":requirements")) item_heads.Requirements _ (λ e. same_word text (codes ":requirements") e)
    (λ _. pick P (bytes_eq text (codes ":objects")) item_heads.Objects _ (λ e. same_word text (codes ":objects") e)
    (λ _. pick P (bytes_eq text (codes ":init")) item_heads.Init _ (λ e. same_word text (codes ":init") e)
    (λ _. pick P (bytes_eq text (codes ":goal")) item_heads.Goal _ (λ e. same_word text (codes ":goal") e)
    (λ _. pick P (is_other_item text) item_heads.Unsupported item_heads.Other (λ _. tt) (λ _. tt))))))

-- an item that is put in its place
abbrev with_entry : Entries → Entry → Entries
with_entry so_far OfDomain = record so_far { domain = true }
with_entry so_far Flags = record so_far { requirements = true }
with_entry so_far (Objects objects) = record so_far { objects = Some objects }
with_entry so_far (Init init) = record so_far { init = Some init }
with_entry so_far (Goal goal) = record so_far { goal = Some goal }

-- the items so far with those that follow
record Fills (so_far : Entries) (entries : List Entry) (all : Entries) : Type 0 where
  domain : option_to_list (flag so_far.domain) ++ domains_in entries ≡ option_to_list (flag all.domain)
  requirements : option_to_list (flag so_far.requirements) ++ flags_in entries ≡ option_to_list (flag all.requirements)
  objects : option_to_list so_far.objects ++ objects_in entries ≡ option_to_list all.objects
  init : option_to_list so_far.init ++ inits_in entries ≡ option_to_list all.init
  goal : option_to_list so_far.goal ++ goals_in entries ≡ option_to_list all.goal

abbrev HasPlace : Entries → Entry → Type 0
HasPlace so_far OfDomain = so_far.domain ≡ false
HasPlace so_far Flags = so_far.requirements ≡ false
HasPlace so_far (Objects objects) = so_far.objects ≡ None
HasPlace so_far (Init init) = so_far.init ≡ None
HasPlace so_far (Goal goal) = so_far.goal ≡ None

has_place : (so_far : Entries) (entry : Entry) (entries : List Entry) (all : Entries) → Fills so_far (entry ∷ entries) all → HasPlace so_far entry
has_place so_far OfDomain entries all it = flag_free so_far.domain (free_of (flag so_far.domain) [] (domains_in entries) (flag all.domain) it.domain)
has_place so_far Flags entries all it =
    flag_free so_far.requirements (free_of (flag so_far.requirements) [] (flags_in entries) (flag all.requirements) it.requirements)
has_place so_far (Objects objects) entries all it = free_of so_far.objects objects (objects_in entries) all.objects it.objects
has_place so_far (Init init) entries all it = free_of so_far.init init (inits_in entries) all.init it.init
has_place so_far (Goal goal) entries all it = free_of so_far.goal goal (goals_in entries) all.goal it.goal

-- an item before others and one that is in its place are the same
moved : (so_far : Entries) (entry : Entry) (entries : List Entry) (all : Entries) → HasPlace so_far entry
    → (Fills so_far (entry ∷ entries) all → Fills (with_entry so_far entry) entries all)
    × (Fills (with_entry so_far entry) entries all → Fills so_far (entry ∷ entries) all)
moved so_far OfDomain entries all free =
    let P : Bool → Type 0 = λ there. option_to_list (flag there) ++ [] ∷ domains_in entries ≡ option_to_list (flag all.domain) in (
      λ it. record { domain = subst P free it.domain; requirements = it.requirements; objects = it.objects; init = it.init; goal = it.goal },
      λ it. record { domain = subst P (sym free) it.domain; requirements = it.requirements; objects = it.objects; init = it.init; goal = it.goal },
    )
moved so_far Flags entries all free =
    let P : Bool → Type 0 = λ there. option_to_list (flag there) ++ [] ∷ flags_in entries ≡ option_to_list (flag all.requirements) in (
      λ it. record { domain = it.domain; requirements = subst P free it.requirements; objects = it.objects; init = it.init; goal = it.goal },
      λ it. record { domain = it.domain; requirements = subst P (sym free) it.requirements; objects = it.objects; init = it.init; goal = it.goal },
    )
moved so_far (Objects objects) entries all free =
    let P : Option (List Typed) → Type 0 = λ o. option_to_list o ++ objects ∷ objects_in entries ≡ option_to_list all.objects in (
      λ it. record { domain = it.domain; requirements = it.requirements; objects = subst P free it.objects; init = it.init; goal = it.goal },
      λ it. record { domain = it.domain; requirements = it.requirements; objects = subst P (sym free) it.objects; init = it.init; goal = it.goal },
    )
moved so_far (Init init) entries all free =
    let P : Option (List InitFact) → Type 0 = λ o. option_to_list o ++ init ∷ inits_in entries ≡ option_to_list all.init in (
      λ it. record { domain = it.domain; requirements = it.requirements; objects = it.objects; init = subst P free it.init; goal = it.goal },
      λ it. record { domain = it.domain; requirements = it.requirements; objects = it.objects; init = subst P (sym free) it.init; goal = it.goal },
    )
moved so_far (Goal goal) entries all free =
    let P : Option (List AtomText) → Type 0 = λ o. option_to_list o ++ goal ∷ goals_in entries ≡ option_to_list all.goal in (
      λ it. record { domain = it.domain; requirements = it.requirements; objects = it.objects; init = it.init; goal = subst P free it.goal },
      λ it. record { domain = it.domain; requirements = it.requirements; objects = it.objects; init = it.init; goal = subst P (sym free) it.goal },
    )

record Puts (so_far : Entries) (tree : Tree) (new : Entries) : Type 0 where
  entry : Entry
  is : IsEntry tree entry
  place : HasPlace so_far entry
  put : new ≡ with_entry so_far entry

domain_name_holds : (so_far : Entries) (at : ℕ) (i : ℕ) (trees : Trees) → (domain_name_of so_far at trees).faults ≡ []
    → Puts so_far (Branch at (Then (Leaf (codes ":domain") i) trees)) (domain_name_of so_far at trees).value
domain_name_holds so_far at i End none = cc
domain_name_holds so_far at i (Then tree rest) none =
    let read = once_new so_far.domain at (only_name_of at (Then tree rest)) none in
    let it = only_name_holds at (Then tree rest) read.1 in
    record {
      entry = OfDomain;
      is = subst (λ (trees : Trees). HasEntry (codes ":domain") trees OfDomain) (sym it.only)
          (of_domain it.tree (only_name_of at (Then tree rest)).value it.is);
      place = read.0;
      put = refl;
    }

ended : (trees : Trees) → (end_of trees).faults ≡ [] → trees ≡ End
ended End none = refl
ended (Then tree rest) none = cc

goal_entry_holds : (so_far : Entries) (at : ℕ) (i : ℕ) (trees : Trees) → (goal_entry_of so_far at trees).faults ≡ []
    → Puts so_far (Branch at (Then (Leaf (codes ":goal") i) trees)) (goal_entry_of so_far at trees).value
goal_entry_holds so_far at i End none = cc
goal_entry_holds so_far at i (Then tree rest) none =
    let read = once_new (is_some so_far.goal) at (only_goal_of tree rest) none in
    let last = ended rest (none_before (end_of rest).faults [] (none_behind (goal_of tree).faults _ read.1)) in
    let atoms = (goal_of tree).value in
    record {
      entry = Goal atoms;
      is = subst (λ (trees : Trees). HasEntry (codes ":goal") (Then tree trees) (Goal atoms)) (sym last)
          (of_goal tree atoms (goal_holds tree (none_before (goal_of tree).faults _ read.1)));
      place = not_there so_far.goal read.0;
      put = refl;
    }

headed_entry_holds : (so_far : Entries) (at : ℕ) (head : List ℕ) (i : ℕ) (rest : Trees) → (headed_entry_of so_far at head i rest).faults ≡ []
    → Puts so_far (Branch at (Then (Leaf head i) rest)) (headed_entry_of so_far at head i rest).value
headed_entry_holds so_far at head i rest none =
    let tree_by : List ℕ → Tree = λ w. Branch at (Then (Leaf w i) rest) in
    elim (item_head_of head) as (λ k. SaysEntry k head → let r : Read Entries = elim k [
      | item_heads.Domain ↦ domain_name_of so_far at rest
      | item_heads.Requirements ↦ wrong_if so_far.requirements Duplicate at
          >> (flags_of rest >> fine (record so_far { requirements = true }))
      | item_heads.Objects ↦ wrong_if (is_some so_far.objects) Duplicate at
          >> (typed_of roles.Names [] [] rest >>= λ objects. fine (record so_far { objects = Some objects }))
      | item_heads.Init ↦ wrong_if (is_some so_far.init) Duplicate at
          >> (each fact_of rest >>= λ init. fine (record so_far { init = Some init }))
      | item_heads.Goal ↦ goal_entry_of so_far at rest
      | item_heads.Unsupported ↦ wrong (Unsupported head) i >> fine so_far
      | item_heads.Other ↦ wrong Shape at >> fine so_far
    ] in r.faults ≡ [] → Puts so_far (Branch at (Then (Leaf head i) rest)) r.value) [
      | item_heads.Domain ↦ λ says none. subst (λ (w : List ℕ). Puts so_far (tree_by w) (domain_name_of so_far at rest).value) (sym says)
          (domain_name_holds so_far at i rest none)
      | item_heads.Requirements ↦ λ says none.
          let it = once_new so_far.requirements at (flags_of rest) none in record {
            entry = Flags;
            is = subst (λ (w : List ℕ). HasEntry w rest Flags) (sym says) (of_flags rest (flags_hold rest it.1));
            place = it.0;
            put = refl;
          }
      | item_heads.Objects ↦ λ says none.
          let it = once_new (is_some so_far.objects) at (typed_of roles.Names [] [] rest) none in
          let objects = (typed_of roles.Names [] [] rest).value in record {
            entry = Objects objects;
            is = subst (λ (w : List ℕ). HasEntry w rest (Objects objects)) (sym says) (of_objects rest objects (list_holds roles.Names rest it.1));
            place = not_there so_far.objects it.0;
            put = refl;
          }
      | item_heads.Init ↦ λ says none.
          let it = once_new (is_some so_far.init) at (each fact_of rest) none in
          let init = (each fact_of rest).value in record {
            entry = Init init;
            is = subst (λ (w : List ℕ). HasEntry w rest (Init init)) (sym says) (of_init rest init (each_holds fact_of IsFact fact_holds rest it.1));
            place = not_there so_far.init it.0;
            put = refl;
          }
      | item_heads.Goal ↦ λ says none. subst (λ (w : List ℕ). Puts so_far (tree_by w) (goal_entry_of so_far at rest).value) (sym says)
          (goal_entry_holds so_far at i rest none)
      | item_heads.Unsupported ↦ λ says none. cc
      | item_heads.Other ↦ λ says none. cc
    ] (entry_says head) none

entry_holds : (so_far : Entries) (tree : Tree) → (entry_of so_far tree).faults ≡ [] → Puts so_far tree (entry_of so_far tree).value
entry_holds so_far (Leaf text at) none = cc
entry_holds so_far (Branch at End) none = cc
entry_holds so_far (Branch at (Then (Branch i trees) rest)) none = cc
entry_holds so_far (Branch at (Then (Leaf head i) rest)) none = headed_entry_holds so_far at head i rest none

record AllFill (so_far : Entries) (trees : Trees) (all : Entries) : Type 0 where
  entries : List Entry
  each : Each IsEntry trees entries
  fill : Fills so_far entries all

entries_hold : (so_far : Entries) (trees : Trees) → (entries_of so_far trees).faults ≡ [] → AllFill so_far trees (entries_of so_far trees).value
entries_hold so_far End none = record {
  entries = [];
  each = tt;
  fill = record {
    domain = append_none (option_to_list (flag so_far.domain));
    requirements = append_none (option_to_list (flag so_far.requirements));
    objects = append_none (option_to_list so_far.objects);
    init = append_none (option_to_list so_far.init);
    goal = append_none (option_to_list so_far.goal);
  };
}
entries_hold so_far (Then tree rest) none =
    let read = entry_of so_far tree in
    let it = entry_holds so_far tree (none_before read.faults _ none) in
    let all = (entries_of read.value rest).value in
    let more = entries_hold read.value rest (none_behind read.faults _ none) in
    record {
      entries = it.entry ∷ more.entries;
      each = (it.is, more.each);
      fill = (moved so_far it.entry more.entries all it.place).1 (subst (λ (new : Entries). Fills new more.entries all) it.put more.fill);
    }

-- what must be there is there
there_of : {A : Type 0} (xs : List (List A)) (kept : Option (List A)) → xs ≡ option_to_list kept → is_none kept ≡ false
    → xs ≡ unwrap_or kept [] ∷ []
there_of xs None e there = cc
there_of xs (Some x) e there = e

pub problem_holds : (trees : Trees) → (problem_of trees).faults ≡ [] → IsProblem trees (problem_of trees).value
problem_holds trees none =
    let outline = outline_of trees in
    let title = title_of (codes "problem") outline.value.title in
    let rest = outline.value.rest in
    let read = entries_of no_entries rest in
    let entries = read.value in
    let complete = complete_of outline.value.at entries in
    let all : outline.faults ++ (title.faults ++ ((read.faults ++ (complete.faults ++ [])) ++ [])) ≡ [] = none_before _ [] none in
    let behind = none_behind outline.faults _ all in
    let listed = none_before (read.faults ++ (complete.faults ++ [])) [] (none_behind title.faults _ behind) in
    let it = entries_hold no_entries rest (none_before read.faults _ listed) in
    let there = none_before complete.faults [] (none_behind read.faults _ listed) in
    let no_init = wrong_if (is_none entries.init) Shape outline.value.at in
    record {
      rest = rest;
      entries = it.entries;
      outline = outline_holds (codes "problem") trees (none_before outline.faults _ all) (none_before title.faults _ behind);
      each = it.each;
      domain = flag_none (domains_in it.entries) entries.domain it.fill.domain;
      requirements = flag_none (flags_in it.entries) entries.requirements it.fill.requirements;
      objects = once_of (objects_in it.entries) entries.objects it.fill.objects;
      facts = unwrap_or entries.init [];
      literals = refl;
      init = there_of (inits_in it.entries) entries.init it.fill.init
          (not_faulty (is_none entries.init) (record { kind = Shape; at = outline.value.at }) (none_before no_init.faults _ there));
      goal = there_of (goals_in it.entries) entries.goal it.fill.goal
          (not_faulty (is_none entries.goal) (record { kind = Shape; at = outline.value.at }) (none_behind no_init.faults _ there));
    }

-- ---- the other way
entry_reads : (so_far : Entries) (at : ℕ) (head : List ℕ) (i : ℕ) (rest : Trees) (entry : Entry) → HasEntry head rest entry → HasPlace so_far entry
    → entry_of so_far (Branch at (Then (Leaf head i) rest)) ≡ fine (with_entry so_far entry)
entry_reads so_far at _ i _ _ (of_domain tree name is) free =
    once_read so_far.domain at (only_name_of at (Then tree End)) name (λ name. record so_far { domain = true }) free (only_name_reads at tree name is)
entry_reads so_far at _ i _ _ (of_flags rest are) free =
    λ j. wrong_if (free j) Duplicate at >> (record { faults = flags_read rest are j; value = tt } >> fine (record so_far { requirements = true }))
entry_reads so_far at _ i _ _ (of_objects rest objects is) free =
    once_read (is_some so_far.objects) at (typed_of roles.Names [] [] rest) objects (λ objects. record so_far { objects = Some objects })
    (free_place so_far.objects free) (list_reads roles.Names rest objects is)
entry_reads so_far at _ i _ _ (of_init rest facts are) free =
    once_read (is_some so_far.init) at (each fact_of rest) facts (λ init. record so_far { init = Some init })
    (free_place so_far.init free) (each_reads fact_of IsFact fact_reads rest facts are)
entry_reads so_far at _ i _ _ (of_goal tree atoms is) free =
    once_read (is_some so_far.goal) at (only_goal_of tree End) atoms (λ goal. record so_far { goal = Some goal })
    (free_place so_far.goal free) (λ j. goal_reads tree atoms is j >>= λ goal. end_of End >> fine goal)

entries_read : (so_far : Entries) (trees : Trees) (entries : List Entry) (all : Entries) → Each IsEntry trees entries
    → Fills so_far entries all → entries_of so_far trees ≡ fine all
entries_read so_far End [] all each it =
    let domain = flag_same so_far.domain all.domain (same_of (flag so_far.domain) (flag all.domain) it.domain) in
    let requirements = flag_same so_far.requirements all.requirements (same_of (flag so_far.requirements) (flag all.requirements) it.requirements) in
    let objects = same_of so_far.objects all.objects it.objects in
    let init = same_of so_far.init all.init it.init in
    let goal = same_of so_far.goal all.goal it.goal in
    λ j. fine (record { domain = domain j; requirements = requirements j; objects = objects j; init = init j; goal = goal j })
entries_read so_far End (entry ∷ entries) all each it = absurd each
entries_read so_far (Then tree rest) [] all each it = absurd each
entries_read so_far (Then (Leaf text at) rest) (entry ∷ entries) all (is, each) it = absurd is
entries_read so_far (Then (Branch at End) rest) (entry ∷ entries) all (is, each) it = absurd is
entries_read so_far (Then (Branch at (Then (Branch i trees) more)) rest) (entry ∷ entries) all (is, each) it = absurd is
entries_read so_far (Then (Branch at (Then (Leaf head i) more)) rest) (entry ∷ entries) all (is, each) it =
    let free = has_place so_far entry entries all it in
    ap (λ (r : Read Entries). r >>= λ new. entries_of new rest) (entry_reads so_far at head i more entry is free)
    ∙ entries_read (with_entry so_far entry) rest entries all each ((moved so_far entry entries all free).0 it)

listed_reads : (name : Name) (trees rest : Trees) (all : Entries) (problem : Problem) → HasOutline (codes "problem") trees name rest
    → entries_of no_entries rest ≡ fine all → is_none all.init ≡ false → is_none all.goal ≡ false → problem_from name all ≡ problem
    → problem_of trees ≡ fine problem
listed_reads _ _ _ all problem (defines at i j k title name rest is) read init goal same =
    let pair : Name → Entries → Name × Entries = λ (name : Name) (entries : Entries). (name, entries) in
    (λ l. (title_reads (codes "problem") j k title name is l >>= λ name. (read l >>= λ entries. (wrong_if (is_none entries.init) Shape at
    >> wrong_if (is_none entries.goal) Shape at) >> fine entries) >>= λ entries. fine (pair name entries)) >>= λ read. fine (problem_from read.0 read.1))
    ∙ (λ l. (fine name >>= λ name. (fine all >>= λ entries. (wrong_if (init l) Shape at >> wrong_if (goal l) Shape at) >> fine entries)
    >>= λ entries. fine (pair name entries)) >>= λ read. fine (problem_from read.0 read.1))
    ∙ ap fine same

pub problem_reads : (trees : Trees) (problem : Problem) → IsProblem trees problem → problem_of trees ≡ fine problem
problem_reads trees problem is =
    let domain = flag_of (domains_in is.entries) is.domain in
    let requirements = flag_of (flags_in is.entries) is.requirements in
    let objects = kept_is (objects_in is.entries) problem.objects is.objects in
    let all : Entries = record {
      domain = domain.0;
      requirements = requirements.0;
      objects = kept_of (objects_in is.entries);
      init = Some is.facts;
      goal = Some problem.goal;
    } in
    listed_reads problem.name trees is.rest all problem is.outline
    (entries_read no_entries is.rest is.entries all is.each
    (record { domain = domain.1; requirements = requirements.1; objects = objects.0; init = is.init; goal = is.goal }))
    refl refl (λ j. record { name = problem.name; objects = objects.1 j; init = sym is.literals j; goal = problem.goal })
