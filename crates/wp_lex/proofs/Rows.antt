-- The definitions at small texts.
use Rattle.std.proofs.Common.{◌≡◌, [], ◌∷◌, ◌++◌, None, Some, replicate, refl}
use Rattle.std.specs.Prelude.{codes}
use Rattle.wp_lex.specs.declared.error.LexError.TheVariants.{BadByte, Unopened, Unclosed, Trailing, TooDeep, Empty}
use Rattle.wp_lex.specs.declared.item.Item.TheVariants.{Word, Open, Close}
use Rattle.wp_lex.specs.Faults.{fault_of, plan_fault_of}
use Rattle.wp_lex.specs.Items.{items_of, plan_items_of}

the_empty_text : fault_of [] ≡ Some Empty
the_empty_text = refl

a_lone_word : fault_of (codes "x") ≡ Some (Unopened 0)
a_lone_word = refl

a_lone_closing_bracket : fault_of (codes ")") ≡ Some (Unopened 0)
a_lone_closing_bracket = refl

a_list_left_open : fault_of (codes "(a") ≡ Some Unclosed
a_list_left_open = refl

a_bracket_too_many : fault_of (codes "(a))") ≡ Some (Trailing 3)
a_bracket_too_many = refl

a_second_list : fault_of (codes "(a)(b)") ≡ Some (Trailing 3)
a_second_list = refl

a_byte_that_is_no_ascii : fault_of (codes "(a" ++ 200 ∷ codes ")") ≡ Some (BadByte 2)
a_byte_that_is_no_ascii = refl

any_byte_in_a_comment : fault_of (codes "(a;" ++ 200 ∷ 10 ∷ codes ")") ≡ None
any_byte_in_a_comment = refl

its_items : items_of (codes "(a;" ++ 200 ∷ 10 ∷ codes ")") ≡ Open 0 ∷ Word (codes "a") 1 ∷ Close ∷ []
its_items = refl

sixty_four_lists_deep : fault_of (replicate 64 40 ++ replicate 64 41) ≡ None
sixty_four_lists_deep = refl

sixty_five_lists_deep : fault_of (replicate 65 40 ++ replicate 65 41) ≡ Some (TooDeep 64)
sixty_five_lists_deep = refl

upper_case_and_separators :
    items_of (9 ∷ codes "(Ab" ++ 13 ∷ 10 ∷ codes "Z[" ++ 12 ∷ codes "c;D" ++ 13 ∷ codes "e)" ++ 10 ∷ 11 ∷ codes ") ")
    ≡ Open 1 ∷ Word (codes "ab") 2 ∷ Word (codes "z[") 6 ∷ Word (codes "c") 9 ∷ Close ∷ []
upper_case_and_separators = refl

a_plan : plan_fault_of (codes "0: (s1) [1]" ++ 10 ∷ codes "0.001: (s2) [1]") ≡ None
a_plan = refl

its_lists : plan_items_of (codes "0: (s1) [1]" ++ 10 ∷ codes "0.001: (s2) [1]")
    ≡ Open 3 ∷ Word (codes "s1") 4 ∷ Close ∷ Open 19 ∷ Word (codes "s2") 20 ∷ Close ∷ []
its_lists = refl

an_empty_plan : plan_fault_of [] ≡ None
an_empty_plan = refl

its_items_are_none : plan_items_of [] ≡ []
its_items_are_none = refl

a_label_may_end_with_a_point : plan_fault_of (codes "5.:") ≡ None
a_label_may_end_with_a_point = refl

a_label_begins_with_a_digit : plan_fault_of (codes ".5:") ≡ Some (Unopened 0)
a_label_begins_with_a_digit = refl

a_colon_is_no_label : plan_fault_of (codes ":") ≡ Some (Unopened 0)
a_colon_is_no_label = refl

two_points_are_no_label : plan_fault_of (codes "1.2.3:") ≡ Some (Unopened 0)
two_points_are_no_label = refl

an_empty_duration : plan_fault_of (codes "[]") ≡ None
an_empty_duration = refl

a_bracket_is_no_duration : plan_fault_of (codes "[") ≡ Some (Unopened 0)
a_bracket_is_no_duration = refl

a_label_in_a_list_is_a_word : plan_items_of (codes "(5:)") ≡ Open 0 ∷ Word (codes "5:") 1 ∷ Close ∷ []
a_label_in_a_list_is_a_word = refl

a_closing_bracket_outside : plan_fault_of (codes "(a))") ≡ Some (Unopened 3)
a_closing_bracket_outside = refl

a_plan_left_open : plan_fault_of (codes "(a)(b") ≡ Some Unclosed
a_plan_left_open = refl

a_word_behind_the_list : fault_of (codes "(a) x") ≡ Some (Trailing 4)
a_word_behind_the_list = refl

a_bad_byte_behind_the_list : fault_of (codes "(a) " ++ 127 ∷ codes "x") ≡ Some (BadByte 4)
a_bad_byte_behind_the_list = refl

a_comment_behind_the_list : fault_of (codes "(a) ; (b) x") ≡ None
a_comment_behind_the_list = refl

a_comment_at_the_end_of_an_open_list : fault_of (codes "(a ; )") ≡ Some Unclosed
a_comment_at_the_end_of_an_open_list = refl
