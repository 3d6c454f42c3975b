use Rattle.std.proofs.Common.{sym, ◌∙◌}
use Rattle.ipc_script.proofs.LineWords.{last_word, next_word, from_words, some_word}
use Rattle.ipc_script.proofs.line.line_of.Goals as goal

pub returns-in_default : goal.returns-in_default
returns-in_default c = c.one_word.ensures ∙ sym (from_words c.args.text.now _ (last_word _ _ _ c.word.ensures c.in_default.is))

pub returns-in_default-rest : goal.returns-in_default-rest
returns-in_default-rest c =
    let two = next_word _ _ _ _ _ c.word.ensures c.in-Some.is (last_word _ _ _ c.word-2.ensures c.in_default-rest.is) in
    c.two_words.ensures ∙ sym (from_words c.args.text.now _ two)

pub returns-in_default-rest-2 : goal.returns-in_default-rest-2
returns-in_default-rest-2 c =
    let three = next_word _ _ _ _ _ c.word.ensures c.in-Some.is
    (next_word _ _ _ _ _ c.word-2.ensures c.in-Some-rest.is (last_word _ _ _ c.word-3.ensures c.in_default-rest-2.is)) in
    c.three_words.ensures ∙ sym (from_words c.args.text.now _ three)

pub returns-in-None : goal.returns-in-None
returns-in-None c =
    let four = next_word _ _ _ _ _ c.word.ensures c.in-Some.is
    (next_word _ _ _ _ _ c.word-2.ensures c.in-Some-rest.is
    (next_word _ _ _ _ _ c.word-3.ensures c.in-Some-rest-2.is (last_word _ _ _ c.word-4.ensures c.in-None.is))) in
    c.four_words.ensures ∙ sym (from_words c.args.text.now _ four)

pub returns-in-Some-rest-3 : goal.returns-in-Some-rest-3
returns-in-Some-rest-3 c =
    let fifth = some_word c.in-Some-rest-3.field-0.now in
    let five = next_word _ _ _ _ _ c.word.ensures c.in-Some.is
    (next_word _ _ _ _ _ c.word-2.ensures c.in-Some-rest.is
    (next_word _ _ _ _ _ c.word-3.ensures c.in-Some-rest-2.is
    (next_word _ _ _ _ _ c.word-4.ensures c.in-Some-rest-3.is fifth.2))) in
    sym (from_words c.args.text.now _ five)
