-- Which process runs next: who may run, in turn under seed 0, and by the generator under another seed.
use Rattle.std.specs.Prelude.{◌≡◌, refl, ℕ, ◌/◌, ◌^◌, List, [], ◌∷◌, Some, None, codes}
use Rattle.run_model.specs.Types.{Print, Wait}
use Rattle.run_model.specs.Core.{Process, Core, new_process, start_core}
use Rattle.run_model.specs.Schedule.{round_robin, next_x, moved_x, pick_in, at_random, runnable_processes, choose, core_after_choice}

-- ---- in turn: the least number above the last one to run, or else the least

-- 0 ran last, and 1 is the least above it
turn_after_first : round_robin 0 (0 ∷ 1 ∷ 2 ∷ []) ≡ 1
turn_after_first = refl

-- and not always the same one: after 1 comes 2
turn_after_second : round_robin 1 (0 ∷ 1 ∷ 2 ∷ []) ≡ 2
turn_after_second = refl

-- none is above 2, so that it begins anew
turn_after_last : round_robin 2 (0 ∷ 1 ∷ 2 ∷ []) ≡ 0
turn_after_last = refl

-- 1 can't run, so that 2 is the least above 0
turn_past_missing : round_robin 0 (0 ∷ 2 ∷ 5 ∷ []) ≡ 2
turn_past_missing = refl

-- that the last one can't run any more changes nothing
turn_after_missing : round_robin 3 (0 ∷ 2 ∷ 5 ∷ []) ≡ 5
turn_after_missing = refl

-- none is above 7, and the least of those that can run isn't 0
turn_to_least : round_robin 7 (1 ∷ 4 ∷ []) ≡ 1
turn_to_least = refl

-- the only one runs again
turn_alone : round_robin 3 (3 ∷ []) ≡ 3
turn_alone = refl

-- ---- the generator: x * 6364136223846793005 + 1442695040888963407, modulo 2^64

-- 7 * 6364136223846793005 + 1442695040888963407 = 45991648607816514442, less 2 * 2^64
first_x : next_x 7 ≡ 9098160460397411210
first_x = refl

-- the largest x: -1 * the factor + the addend, and 2^64 to be above 0
largest_x : next_x 18446744073709551615 ≡ 13525302890751722018
largest_x = refl

-- x after the steps 2, 3 and 4 under seed 7
abbrev x_2 : ℕ
x_2 = next_x (next_x 7)

abbrev x_3 : ℕ
x_3 = next_x x_2

abbrev x_4 : ℕ
x_4 = next_x x_3

-- without their 33 lowest bits
second_number : x_2 / 2 ^ 33 ≡ 2052263231
second_number = refl

third_number : x_3 / 2 ^ 33 ≡ 1946856753
third_number = refl

fourth_number : x_4 / 2 ^ 33 ≡ 585718673
fourth_number = refl

-- all three are odd: of two processes it is the second one
second_of_two : at_random x_2 (0 ∷ 1 ∷ []) ≡ 1
second_of_two = refl

third_of_two : at_random x_3 (0 ∷ 1 ∷ []) ≡ 1
third_of_two = refl

fourth_of_two : at_random x_4 (0 ∷ 1 ∷ []) ≡ 1
fourth_of_two = refl

-- by the sums of their digits, 26, 54 and 50, they leave 2, 0 and 2 by three; indices count from 0
second_of_three : at_random x_2 (3 ∷ 5 ∷ 8 ∷ []) ≡ 8
second_of_three = refl

third_of_three : at_random x_3 (3 ∷ 5 ∷ 8 ∷ []) ≡ 3
third_of_three = refl

fourth_of_three : at_random x_4 (3 ∷ 5 ∷ 8 ∷ []) ≡ 8
fourth_of_three = refl

-- a given pick is counted round too: 7 leaves 1 by three
pick_counted_round : pick_in (3 ∷ 5 ∷ 8 ∷ []) 7 ≡ 5
pick_counted_round = refl

-- under seed 0 it stands still, under another one it moves
still_under_zero : (x : ℕ) → moved_x 0 x ≡ x
still_under_zero x = refl

moves_under_seven : moved_x 7 7 ≡ 9098160460397411210
moves_under_seven = refl

-- ---- who may run

-- it has a child, process 1, and waits for it
abbrev waiting : Process
waiting = record (new_process (0 ∷ []) (Wait (codes "s") (codes "c") ∷ []) []) {
  children =
      record { name = codes "c"; bound = 1 } ∷ [];
}

abbrev going : List ℕ → Process
going name = new_process name (Print [] ∷ []) []

abbrev ended : List ℕ → Process
ended name = record (going name) { status = Some 0 }

-- a state with these processes
abbrev core : ℕ → List Process → Core
core seed processes = record (start_core [] seed [] []) { processes = processes }

abbrev two : ℕ → Core
two seed = core seed (going (0 ∷ []) ∷ going (0 ∷ 0 ∷ []) ∷ [])

-- 0 waits for 1, which hasn't ended; 2 has ended; 3 is left beside 1
all_but_waiting_and_ended
    : runnable_processes (core 0 (waiting ∷ going (0 ∷ 0 ∷ []) ∷ ended (0 ∷ 1 ∷ []) ∷ going (0 ∷ 2 ∷ []) ∷ [])) ≡ 1 ∷ 3 ∷ []
all_but_waiting_and_ended = refl

-- 1 has ended, so that 0 may go on
waited_for_ended : runnable_processes (core 0 (waiting ∷ ended (0 ∷ 0 ∷ []) ∷ [])) ≡ 0 ∷ []
waited_for_ended = refl

-- ---- the choice

-- at the start no process has run but that 0 counts as the last one, and x is the seed
start_last : (two 7).last ≡ 0
start_last = refl

start_x : (two 7).x ≡ 7
start_x = refl

-- a choice is noted, and the generator has moved once
noted_last : (core_after_choice 1 (two 7)).last ≡ 1
noted_last = refl

noted_x : (core_after_choice 1 (two 7)).x ≡ 9098160460397411210
noted_x = refl

noted_x_under_zero : (core_after_choice 1 (two 0)).x ≡ 0
noted_x_under_zero = refl

-- seed 0, two processes: they take turns after the first, which made the second one
abbrev zero_turn_2 : Core
zero_turn_2 = core_after_choice 1 (two 0)

turns_second : choose None (two 0) ≡ 1
turns_second = refl

turns_third : choose None zero_turn_2 ≡ 0
turns_third = refl

turns_fourth : choose None (core_after_choice 0 zero_turn_2) ≡ 1
turns_fourth = refl

-- seed 7, two processes: the second one runs three times, after the first step, which was of the only one
abbrev seven_turn_1 : Core
seven_turn_1 = core_after_choice 0 (two 7)

seven_second : choose None seven_turn_1 ≡ 1
seven_second = refl

seven_third : choose None (core_after_choice 1 seven_turn_1) ≡ 1
seven_third = refl

seven_fourth : choose None (core_after_choice 1 (core_after_choice 1 seven_turn_1)) ≡ 1
seven_fourth = refl

-- a given pick goes before the seed
given_pick : choose (Some 4) seven_turn_1 ≡ 0
given_pick = refl
