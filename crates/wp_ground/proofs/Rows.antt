-- Worked rows of the definitions, each computed.
use Rattle.std.specs.Prelude.{◌≡◌, ℕ, true, false, None, Some, List, [], ◌∷◌, length, map, codes, refl}
use Rattle.wp_lift.specs.declared.atoms.GroundAtom.{GroundAtom}
use Rattle.wp_lift.specs.declared.schemas.Pred.{Pred}
use Rattle.wp_lift.specs.declared.schemas.Schema.{Schema}
use Rattle.wp_lift.specs.declared.schemas.Slot.{Slot}
use Rattle.wp_lift.specs.declared.schemas.Slot.TheVariants.{Param}
use Rattle.wp_lift.specs.declared.schemas.SlotAtom.{SlotAtom}
use Rattle.wp_lift.specs.declared.schemas.SlotCond.{SlotCond}
use Rattle.wp_lift.specs.declared.schemas.SlotCond.TheVariants.{Atom, Differ}
use Rattle.wp_lift.specs.declared.schemas.SlotEffect.{SlotEffect}
use Rattle.wp_lift.specs.Problem.{Lifting}
use Rattle.wp_lift.specs.Worlds.{is_valid}
use Rattle.wp_task.specs.Task.{is_plan, act_at}
use Rattle.wp_ground.specs.declared.grounding.GroundError.TheVariants.{GoalOutOfReach}
use Rattle.wp_ground.specs.Tasks.{task_of, instance_at}
use Rattle.wp_ground.specs.Refusals.{grounded_of, refusal_of}

abbrev pred : List ℕ → ℕ → Pred
pred name arity = record { name = name; arity = arity }

abbrev ground_atom : ℕ → List ℕ → GroundAtom
ground_atom pred args = record { pred = pred; args = args }

abbrev of : ℕ → List Slot → SlotAtom
of pred slots = record { pred = pred; slots = slots }

abbrev adds : ℕ → List Slot → SlotEffect
adds pred slots = record { add = true; atom = record { pred = pred; slots = slots } }

abbrev deletes : ℕ → List Slot → SlotEffect
deletes pred slots = record { add = false; atom = record { pred = pred; slots = slots } }

abbrev schema : List ℕ → ℕ → List SlotCond → List SlotEffect → Schema
schema name arity conds effects = record { name = name; arity = arity; conds = conds; effects = effects }

-- a chain: a gives b, b gives c and takes a away
abbrev chain_with : List Pred → List GroundAtom → Lifting
chain_with preds goals = record {
  objects = [];
  kinds = [];
  preds = pred (codes "a") 0 ∷ pred (codes "b") 0 ∷ pred (codes "c") 0 ∷ preds;
  schemas =
      schema (codes "s1") 0 (Atom (of 0 []) ∷ []) (adds 1 [] ∷ [])
      ∷ schema (codes "s2") 0 (Atom (of 1 []) ∷ []) (deletes 0 [] ∷ adds 2 [] ∷ [])
      ∷ [];
  wanted = [] ∷ [] ∷ [];
  subtypes = (true ∷ []) ∷ [];
  opening = ground_atom 0 [] ∷ [];
  goals = goals;
}

abbrev chain : Lifting
chain = chain_with [] (ground_atom 2 [] ∷ [])

chain_grounded : grounded_of chain ≡ record {
  task = record {
    atoms = 3;
    init = true ∷ false ∷ false ∷ [];
    goals = 2 ∷ [];
    acts = record { pre = 0 ∷ []; add = 1 ∷ []; del = [] } ∷ record { pre = 1 ∷ []; add = 2 ∷ []; del = 0 ∷ [] } ∷ [];
  };
  atom_names = codes "(a)" ∷ codes "(b)" ∷ codes "(c)" ∷ [];
  act_names = codes "(s1)" ∷ codes "(s2)" ∷ [];
}
chain_grounded = refl

chain_taken : refusal_of chain ≡ None
chain_taken = refl

-- a further predicate that nothing makes true
chain_out_of_reach : refusal_of (chain_with (pred (codes "q") 0 ∷ []) (ground_atom 2 [] ∷ ground_atom 3 [] ∷ [])) ≡ Some (GoalOutOfReach 1 (codes "(q)"))
chain_out_of_reach = refl

-- goals are a set
chain_goal_twice : (task_of (chain_with [] (ground_atom 2 [] ∷ ground_atom 0 [] ∷ ground_atom 2 [] ∷ []))).goals ≡ 0 ∷ 2 ∷ []
chain_goal_twice = refl

-- trucks and planes between places; hub is a constant, and t1 is declared as a truck and as a plane
-- (types: object 0, truck 1, plane 2, vehicle 3, place 4; objects: hub 0, t1 1, a 2)
abbrev typed : Lifting
typed = record {
  objects = codes "hub" ∷ codes "t1" ∷ codes "a" ∷ [];
  kinds = (4 ∷ []) ∷ (1 ∷ 2 ∷ []) ∷ (4 ∷ []) ∷ [];
  preds = pred (codes "at") 2 ∷ pred (codes "road") 2 ∷ [];
  schemas =
      schema (codes "go") 3 (Atom (of 0 (Param 0 ∷ Param 1 ∷ [])) ∷ Atom (of 1 (Param 1 ∷ Param 2 ∷ [])) ∷ [])
      (deletes 0 (Param 0 ∷ Param 1 ∷ []) ∷ adds 0 (Param 0 ∷ Param 2 ∷ []) ∷ [])
      ∷ [];
  wanted = ((1 ∷ 2 ∷ []) ∷ (4 ∷ []) ∷ (4 ∷ []) ∷ []) ∷ [];
  subtypes =
      (true ∷ false ∷ false ∷ false ∷ false ∷ [])
      ∷ (true ∷ true ∷ false ∷ true ∷ false ∷ [])
      ∷ (true ∷ false ∷ true ∷ true ∷ false ∷ [])
      ∷ (true ∷ false ∷ false ∷ true ∷ false ∷ [])
      ∷ (true ∷ false ∷ false ∷ false ∷ true ∷ [])
      ∷ [];
  opening = ground_atom 0 (1 ∷ 2 ∷ []) ∷ ground_atom 1 (2 ∷ 0 ∷ []) ∷ [];
  goals = ground_atom 0 (1 ∷ 0 ∷ []) ∷ [];
}

-- roads never change, so they are no atoms
typed_grounded : grounded_of typed ≡ record {
  task = record {
    atoms = 2;
    init = false ∷ true ∷ [];
    goals = 0 ∷ [];
    acts = record { pre = 1 ∷ []; add = 0 ∷ []; del = 1 ∷ [] } ∷ [];
  };
  atom_names = codes "(at t1 hub)" ∷ codes "(at t1 a)" ∷ [];
  act_names = codes "(go t1 a hub)" ∷ [];
}
typed_grounded = refl

-- two parameters that have to differ
abbrev differ : Lifting
differ = record {
  objects = codes "a" ∷ codes "b" ∷ [];
  kinds = (0 ∷ []) ∷ (0 ∷ []) ∷ [];
  preds = pred (codes "q") 2 ∷ [];
  schemas = schema (codes "m") 2 (Differ (Param 0) (Param 1) ∷ []) (adds 0 (Param 0 ∷ Param 1 ∷ []) ∷ []) ∷ [];
  wanted = ((0 ∷ []) ∷ (0 ∷ []) ∷ []) ∷ [];
  subtypes = (true ∷ []) ∷ [];
  opening = [];
  goals = ground_atom 0 (0 ∷ 1 ∷ []) ∷ [];
}

differ_grounded : grounded_of differ ≡ record {
  task = record {
    atoms = 2;
    init = false ∷ false ∷ [];
    goals = 0 ∷ [];
    acts = record { pre = []; add = 0 ∷ []; del = [] } ∷ record { pre = []; add = 1 ∷ []; del = [] } ∷ [];
  };
  atom_names = codes "(q a b)" ∷ codes "(q b a)" ∷ [];
  act_names = codes "(m a b)" ∷ codes "(m b a)" ∷ [];
}
differ_grounded = refl

-- an action that deletes and adds an atom deletes nothing
abbrev same : Lifting
same = record {
  objects = [];
  kinds = [];
  preds = pred (codes "a") 0 ∷ pred (codes "b") 0 ∷ [];
  schemas = schema (codes "both") 0 (Atom (of 0 []) ∷ []) (deletes 0 [] ∷ adds 0 [] ∷ adds 1 [] ∷ []) ∷ [];
  wanted = [] ∷ [];
  subtypes = (true ∷ []) ∷ [];
  opening = ground_atom 0 [] ∷ [];
  goals = ground_atom 0 [] ∷ ground_atom 1 [] ∷ [];
}

same_acts : (task_of same).acts ≡ record { pre = 0 ∷ []; add = 0 ∷ 1 ∷ []; del = [] } ∷ []
same_acts = refl

-- four blocks on a table, of which two pairs are to be stacked
-- (on 0, ontable 1, clear 2, handempty 3, holding 4; block is type 1)
abbrev x : List Slot
x = Param 0 ∷ []

abbrev y : List Slot
y = Param 1 ∷ []

abbrev xy : List Slot
xy = Param 0 ∷ Param 1 ∷ []

abbrev blocks : Lifting
blocks = record {
  objects = codes "a" ∷ codes "b" ∷ codes "c" ∷ codes "d" ∷ [];
  kinds = (1 ∷ []) ∷ (1 ∷ []) ∷ (1 ∷ []) ∷ (1 ∷ []) ∷ [];
  preds = pred (codes "on") 2 ∷ pred (codes "ontable") 1 ∷ pred (codes "clear") 1 ∷ pred (codes "handempty") 0 ∷ pred (codes "holding") 1 ∷ [];
  schemas =
      schema (codes "pick-up") 1 (Atom (of 2 x) ∷ Atom (of 1 x) ∷ Atom (of 3 []) ∷ [])
      (deletes 1 x ∷ deletes 2 x ∷ deletes 3 [] ∷ adds 4 x ∷ [])
      ∷ schema (codes "put-down") 1 (Atom (of 4 x) ∷ []) (deletes 4 x ∷ adds 2 x ∷ adds 3 [] ∷ adds 1 x ∷ [])
      ∷ schema (codes "stack") 2 (Atom (of 4 x) ∷ Atom (of 2 y) ∷ [])
      (deletes 4 x ∷ deletes 2 y ∷ adds 2 x ∷ adds 3 [] ∷ adds 0 xy ∷ [])
      ∷ schema (codes "unstack") 2 (Atom (of 0 xy) ∷ Atom (of 2 x) ∷ Atom (of 3 []) ∷ [])
      (adds 4 x ∷ adds 2 y ∷ deletes 2 x ∷ deletes 3 [] ∷ deletes 0 xy ∷ [])
      ∷ [];
  wanted = ((1 ∷ []) ∷ []) ∷ ((1 ∷ []) ∷ []) ∷ ((1 ∷ []) ∷ (1 ∷ []) ∷ []) ∷ ((1 ∷ []) ∷ (1 ∷ []) ∷ []) ∷ [];
  subtypes = (true ∷ false ∷ []) ∷ (true ∷ true ∷ []) ∷ [];
  opening =
      ground_atom 2 (0 ∷ []) ∷ ground_atom 2 (1 ∷ []) ∷ ground_atom 2 (2 ∷ []) ∷ ground_atom 2 (3 ∷ [])
      ∷ ground_atom 1 (0 ∷ []) ∷ ground_atom 1 (1 ∷ []) ∷ ground_atom 1 (2 ∷ []) ∷ ground_atom 1 (3 ∷ [])
      ∷ ground_atom 3 [] ∷ [];
  goals = ground_atom 0 (0 ∷ 1 ∷ []) ∷ ground_atom 0 (2 ∷ 3 ∷ []) ∷ [];
}

blocks_atoms : (task_of blocks).atoms ≡ 29
blocks_atoms = refl

blocks_acts : length (task_of blocks).acts ≡ 40
blocks_acts = refl

-- pick-up a, stack a b, pick-up c, stack c d (on is 0 to 15, ontable 16 to 19, clear 20 to 23, handempty 24, holding 25 to 28)
blocks_pick : act_at (task_of blocks).acts 0 ≡ record { pre = 16 ∷ 20 ∷ 24 ∷ []; add = 25 ∷ []; del = 16 ∷ 20 ∷ 24 ∷ [] }
blocks_pick = refl

blocks_stack : act_at (task_of blocks).acts 9 ≡ record { pre = 21 ∷ 25 ∷ []; add = 1 ∷ 20 ∷ 24 ∷ []; del = 21 ∷ 25 ∷ [] }
blocks_stack = refl

-- a block is put on itself in the relaxation alone: it deletes nothing that it adds
blocks_stack_on_itself : act_at (task_of blocks).acts 8 ≡ record { pre = 20 ∷ 25 ∷ []; add = 0 ∷ 20 ∷ 24 ∷ []; del = 25 ∷ [] }
blocks_stack_on_itself = refl

blocks_plan : is_plan (task_of blocks) (0 ∷ 9 ∷ 2 ∷ 19 ∷ []) ≡ true
blocks_plan = refl

blocks_plan_means : is_valid blocks (map (instance_at blocks) (0 ∷ 9 ∷ 2 ∷ 19 ∷ [])) ≡ true
blocks_plan_means = refl

blocks_taken : refusal_of blocks ≡ None
blocks_taken = refl
