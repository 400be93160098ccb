-- How a broken rule is mended.
use Rattle.std.specs.Prelude.{ℕ, List, codes, ◌==◌, if◌then◌else◌}

-- how to mend what breaks a rule, by the rule's number
unfoldable pub rule_mend : ℕ → List ℕ
rule_mend rule =
    if rule == 1 then codes "Let n0 to n7 hold numbers and r0 to r7 references, as the fields and the roots say"
    else (if rule == 2 then codes "Compare what the nodes hold, or ask by 'ifeq' for the same node"
    else (if rule == 3 then codes "Make the node in the generator, outside of loops, and let a wrap-up that needs one go back by 'again'"
    else (if rule == 4 then codes "Put numbers and shared references alone, into a node that this generator has made, and change shared nodes by 'cas'"
    else (if rule == 5 then codes "Leave this exchange to the commit"
    else (if rule == 6 then codes "Name the register of the new node in puts and in one entry of the commit alone, and read it in no wrap-up"
    else (if rule == 7 then codes "Load within the loop what it waits for"
    else (if rule == 8 then codes "End a generator by 'commit', and a wrap-up by 'return', 'returnnone' or 'again'"
    else (if rule == 9 then codes "Set another register"
    else (if rule == 10 then codes "Read it in the generator, or let the wrap-up load the register anew first"
    else (if rule == 11 then codes "Load what is exchanged anew in the wrap-up"
    else (if rule == 12 then codes "Retire the node that the exchange cuts off, in the register of its expected value or of its object"
    else (if rule == 13 then codes "Count instructions from 0 and entries of a commit not at all, and declare the roots of a pick one after the other"
    else (if rule == 14 then codes "Set the register on each way there, and what a wrap-up reads before each commit"
    else (if rule == 15 then codes "Keep references to nodes of different kinds in registers of their own"
    else codes "Write it as the rule says"))))))))))))))
