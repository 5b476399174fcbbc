-- Certificates of a trap without a way out, computed: `bad` gives t and spends s, and `cut` needs both.
use Rattle.std.specs.Prelude.{◌≡◌, ℕ, true, false, List, [], ◌∷◌, codes, Some, None, Ok, Err, refl}
use Rattle.std.specs.Fmt.{digits}
use Rattle.wp_task.specs.Set.{set_of}
use Rattle.wp_task.specs.Task.{PlanningTask}
use Rattle.wp_cert.specs.declared.answer.Audit.TheVariants.{Yes, Foreign, NoStart, Goal, Open}
use Rattle.wp_cert.specs.Format.{cert_of, text_of, header_line, state_line, number_in}
use Rattle.wp_cert.specs.Audits.{audit_of}
use Rattle.wp_cert.specs.Closing.{closed_cert}

abbrev trap : PlanningTask
trap = record {
  atoms = 3;
  init = set_of (0 ∷ []) 3;
  goals = 2 ∷ [];
  acts = record { pre = 0 ∷ []; add = 1 ∷ []; del = 0 ∷ [] } ∷ record { pre = 0 ∷ 1 ∷ []; add = 2 ∷ []; del = [] } ∷ [];
}

abbrev certificate : List (List ℕ)
certificate = (0 ∷ []) ∷ (1 ∷ []) ∷ []

closed : closed_cert trap 2 ≡ Some certificate
closed = refl

more_than_one : closed_cert trap 1 ≡ None
more_than_one = refl

written : text_of certificate ≡ codes "states 2\nstate 0\nstate 1\n"
unfolding header_line state_line digits
written = refl

is_closed : audit_of trap certificate ≡ Yes
is_closed = refl

not_closed : audit_of trap ((0 ∷ []) ∷ []) ≡ Open 0 0
not_closed = refl

no_start : audit_of trap ((1 ∷ []) ∷ []) ≡ NoStart
no_start = refl

goal_listed : audit_of trap ((0 ∷ []) ∷ (1 ∷ []) ∷ (2 ∷ []) ∷ []) ≡ Goal 2
goal_listed = refl

foreign : audit_of trap ((9 ∷ []) ∷ []) ≡ Foreign 0
foreign = refl

read : cert_of (codes "states 2\nstate 0\nstate 1\n") ≡ Ok certificate
unfolding cert_of number_in
read = refl

comments_anywhere : cert_of (codes ";a\nstates 2\n;b\nstate 0\n;\nstate 1\n;c\n") ≡ Ok certificate
unfolding cert_of number_in
comments_anywhere = refl

no_atoms : cert_of (codes "states 1\nstate\n") ≡ Ok ([] ∷ [])
unfolding cert_of number_in
no_atoms = refl

a_line_is_missing : cert_of (codes "states 2\nstate 0\n") ≡ Err 3
unfolding cert_of number_in
a_line_is_missing = refl

a_line_too_many : cert_of (codes "states 1\nstate 0\nstate 1\n") ≡ Err 3
unfolding cert_of number_in
a_line_too_many = refl

no_line_feed : cert_of (codes "states 1\nstate 0") ≡ Err 2
unfolding cert_of number_in
no_line_feed = refl

a_comment_without_line_feed : cert_of (codes "states 1\nstate 0\n;") ≡ Err 3
unfolding cert_of number_in
a_comment_without_line_feed = refl

nothing : cert_of [] ≡ Err 1
unfolding cert_of
nothing = refl

an_empty_line : cert_of (codes "states 1\n\nstate 0\n") ≡ Err 2
unfolding cert_of number_in
an_empty_line = refl

not_increasing : cert_of (codes "states 1\nstate 1 1\n") ≡ Err 2
unfolding cert_of number_in
not_increasing = refl

leading_zero : cert_of (codes "states 1\nstate 01\n") ≡ Err 2
unfolding cert_of number_in
leading_zero = refl

two_spaces : cert_of (codes "states 1\nstate  1\n") ≡ Err 2
unfolding cert_of number_in
two_spaces = refl

a_space_at_the_end : cert_of (codes "states 1 \nstate 1\n") ≡ Err 1
unfolding cert_of number_in
a_space_at_the_end = refl

too_great : cert_of (codes "states 1\nstate 65536\n") ≡ Err 2
unfolding cert_of number_in
too_great = refl

the_greatest : cert_of (codes "states 1\nstate 65535\n") ≡ Ok ((65535 ∷ []) ∷ [])
unfolding cert_of number_in
the_greatest = refl

too_many_states : cert_of (codes "states 100000001\n") ≡ Err 1
unfolding cert_of number_in
too_many_states = refl
