-- The opening: the root alone.
use Rattle.std.proofs.Common.{◌≡◌, ◌==◌, ◌&&◌, ℕ, Bool, true, List, [], ◌∷◌, None, length, cond, refl, sym, ap, ◌∙◌, subst, arith}
use Rattle.std.proofs.lemmas.Bool.{le-ltb}
use Rattle.wp_task.specs.declared.track.Mark.{Mark}
use Rattle.wp_task.specs.Task.{PlanningTask}
use Rattle.wp_task.specs.Novelty.{Generated, novelty_of}
use Rattle.wp_relax.specs.RelaxedPlan.{relaxed_atoms_of}
use Rattle.wp_count.specs.Broods.{root_mark}
use Rattle.wp_count.specs.Laws.{HasCounters, IsMarked, MarksCount}
use Rattle.wp_plain.specs.declared.settings.Settings.{Settings}
use Rattle.wp_plain.specs.declared.explored.Way.{Way}
use Rattle.wp_plain.specs.declared.explored.Explored.{Explored}
use Rattle.wp_plain.specs.Nodes.{Node}
use Rattle.wp_plain.specs.Expansion.{path_counters, generated_at, root_node}
use Rattle.wp_plain.specs.Run.{opening}
use Rattle.wp_plain.specs.Explored.{node_at, way_at, lists_of, Lists, IsReached, AreReached, StandsFor}
use Rattle.wp_plain.proofs.NodeLemmas.{novelty-earlier}

alone : (width : ℕ) (x : Generated) → novelty_of width [] x ≡ novelty_of width (x ∷ []) x
alone width x =
    novelty-earlier width [] (x ∷ []) x
    (sym (ap (λ b. cond (b && ((x.counters.0 == x.counters.0) && (x.counters.1 == x.counters.1))) (x ∷ []) []) (le-ltb x.number x.number (omega arith))))

module _ (task : PlanningTask) (settings : Settings) (counts : MarksCount)
    (marked : IsMarked task task.init [] (root_mark task) (relaxed_atoms_of task.acts task.goals task.init)) where
  counters : HasCounters task task.init [] (root_mark task).g (root_mark task).r
  counters = counts task task.init [] (root_mark task) (relaxed_atoms_of task.acts task.goals task.init) marked

  -- the root as it is generated from its mark
  pub root-generated : (state : List Bool) (mark : Mark) → state ≡ task.init → mark ≡ root_mark task →
      ◌≡◌ {A = Generated} (record { number = 0; counters = (mark.g, mark.r); state = state }) (generated_at (path_counters task) [] 0 task.init)
  root-generated state mark state_is mark_is =
      (λ j. (let x : Generated = record { number = 0; counters = ((mark_is j).g, (mark_is j).r); state = state_is j } in x))
      ∙ (λ j. (let x : Generated = record { number = 0; counters = (counters.unmet j, counters.relaxed j); state = task.init } in x))

  pub root-node : (x : Generated) (w : ℕ) → x ≡ generated_at (path_counters task) [] 0 task.init → w ≡ novelty_of settings.width [] x →
      ◌≡◌ {A = Node} (record { generated = x; w = w; kept = true; waits = true }) (root_node task settings)
  root-node x w x_is w_is =
      let novelty = w_is ∙ (ap (novelty_of settings.width []) x_is ∙ alone settings.width (generated_at (path_counters task) [] 0 task.init)) in
      λ j. (let n : Node = record { generated = x_is j; w = novelty j; kept = true; waits = true } in n)

  root-reached : IsReached task (opening task settings).paths (relaxed_atoms_of task.acts task.goals task.init ∷ []) 0 (root_node task settings).generated
      (record { back = None; mark = root_mark task })
  root-reached = record {
    numbered = refl;
    parent = tt;
    path = refl;
    has_track = omega arith;
    counters = λ j. (sym counters.unmet j, sym counters.relaxed j);
    marked = marked;
  }

  pub opening-stands : (e : Explored) (mark : Mark) (track : List ℕ) → mark ≡ root_mark task → track ≡ relaxed_atoms_of task.acts task.goals task.init →
      e.nodes.items ≡ root_node task settings ∷ [] → e.ways.items ≡ record { back = None; mark = mark } ∷ [] → e.tracks.items ≡ track ∷ [] →
      e.pairs.items ≡ (mark.g, mark.r) ∷ [] → e.expanded ≡ 0 → e.repeats ≡ 0 → StandsFor task e (opening task settings)
  opening-stands e mark track mark_is track_is nodes ways tracks pairs expanded repeats =
      let root : List Node = root_node task settings ∷ [] in
      let kept : Lists = record {
        nodes = root;
        ways = record { back = None; mark = root_mark task } ∷ [];
        tracks = relaxed_atoms_of task.acts task.goals task.init ∷ [];
      } in
      let same : kept ≡ lists_of e = λ j. (let l : Lists = record {
        nodes = sym nodes j;
        ways = sym (ways ∙ λ i. (let w : Way = record { back = None; mark = mark_is i } in w) ∷ []) j;
        tracks = sym (tracks ∙ λ i. track_is i ∷ []) j;
      } in l) in
      record {
        nodes = nodes;
        reached = subst (AreReached task (opening task settings).paths) same (record {
          path_each = refl;
          way_each = refl;
          each = λ k below.
              let first : 0 ≡ k = omega arith in
              subst (λ i. IsReached task (opening task settings).paths kept.tracks i (node_at kept.nodes i).generated (way_at kept.ways i)) first root-reached;
        });
        pairs = pairs
            ∙ ((λ j. ((mark_is j).g, (mark_is j).r) ∷ []) ∙ (λ j. (counters.unmet j, counters.relaxed j) ∷ []));
        expanded = expanded;
        repeats = repeats;
      }
