use Rattle.std.proofs.Common.{◌≡◌, ◌≤◌, ◌-◌, List, length, map, ap, ◌∙◌, arith, rules}
use Rattle.wp_count.specs.declared.brood.Child.{Child}
use Rattle.wp_plain.specs.Expansion.{unseen}
use Rattle.wp_commit.specs.Expansions.{states_of}
use Rattle.wp_commit.specs.MadeChildren.{reached_as}
use Rattle.wp_commit.proofs.EvaluationLemmas.{made-ahead, made-few}
use Rattle.wp_commit.proofs.made.made_children.Goals as goal

pub overflow_sub-repeats : goal.overflow_sub-repeats
overflow_sub-repeats c =
    let seen = states_of c.args.nodes.now.kept in
    let reached = c.in_ok-reached.reached.items in
    let few : length reached ≤ length c.into_vec-all.result.items = made-few seen c.into_vec-all.result.items reached c.in_ok-reached.ensures in
    let all : c.len-count.result ≡ length c.into_vec-all.result.items = search rules in
    let rest : c.len.result ≡ length reached = search rules in
    omega arith

pub returns : goal.returns
returns c =
    let seen = states_of c.args.nodes.now.kept in
    let brood = c.args.brood.children in
    let reached = c.in_ok-reached.reached.items in
    let all_are : c.into_vec-all.result.items ≡ brood = c.into_vec-all.ensures ∙ c.into_children.ensures in
    let all : c.len-count.result ≡ length brood = (let n : c.len-count.result ≡ length c.into_vec-all.result.items = search rules in n) ∙ ap length all_are in
    let rest : c.len.result ≡ length reached = search rules in
    made-ahead seen brood reached c.in_ok-children.children.items (c.len-count.result - c.len.result)
    (c.in_ok-reached.ensures ∙ ap (λ (l : List Child). unseen (λ x. x.state) seen (map reached_as l)) all_are)
    c.in_ok-children.ensures (λ j. all j - rest j)
