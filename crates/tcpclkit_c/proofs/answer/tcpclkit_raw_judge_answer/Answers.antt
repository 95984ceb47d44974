use Rattle.tcpclkit_c.proofs.answer.tcpclkit_raw_judge_answer.Goals as goal

pub returns-in_default-answer_by-clause-answer : goal.returns-in_default-answer_by-clause-answer
returns-in_default-answer_by-clause-answer c before answer sent is =
    absurd (c.in_default-answer_by.ensures answer is)
